-- What the ends of the loop along a walk tell of it, where it stands; and laws of a router's index on a walk.
use Rattle.std.proofs.Math.Option.{some, none}
use mathlib.Core.Path.{◌≡◌, refl, sym, ap, ◌∙◌}
use mathlib.Core.Logic.{◌⊎◌, inl, inr}
use mathlib.Core.Bool.{true, false}
use mathlib.Core.List.{List}
use Prim.Native.Nat.{ℕ, zero, suc, ◌+◌, ◌<◌}
use native.Mathlib.Nat.{zero-add, suc-add}
use Rattle.plan.specs.declared.Head.{Head}
use Rattle.plan.specs.declared.Joint.{Joint}
use Rattle.plan.specs.Plan.{Plan, Port, Interface, joint_of}
use Rattle.plan.specs.Rules.{port_of}
use Rattle.plan.specs.Tables.{table_plan, interface_at}
use Rattle.plan_walks.specs.declared.Step.{Step}
use Rattle.plan_walks.specs.declared.Step.TheVariants.{On, End, Lost}
use Rattle.plan_walks.specs.Walk.{walked}
use Rattle.plan_walks.specs.Steps.{step_of, Stepped, stands_on, index_in}
use Rattle.plan_walks.specs.Inside.{number_of_port}
use Rattle.plan_walks.proofs.Stood.{Stood, then_end, then_lost, still_end, still_lost}

-- ---- a step that is on no port is the end or nowhere: what the code's `let .. else` knows
abbrev pub Over : Step → Type 0
Over s = (s ≡ End) ⊎ (s ≡ Lost)

pub over : (s : Step) → ((n : ℕ) → s ≡ On n → ⊥) → Over s
over (On n) k = absurd (k n refl)
over End k = inl refl
over Lost k = inr refl

module _ {routes : List (List ℕ)} {joints : List ℕ} {d from i at : ℕ} {want : Joint} (h : Head)
    (w : want ≡ joint_of (interface_at h d))
    (stood : Stood routes joints d want from i at) {s : Step} (step : Stepped routes joints d want at s) where
  -- ---- where the walk stands after k routers: the loop left early
  pub stands_over : Over s → {k : ℕ} → i < k
      → s ≡ step_of (walked (table_plan h routes joints) (interface_at h d) k (port_of from))
  stands_over (inl e) {k} l = e ∙ sym (ap step_of
      (still_end (table_plan h routes joints) (interface_at h d) (port_of from) (then_end stood step h w e) l))
  stands_over (inr e) {k} l = e ∙ sym (ap step_of
      (still_lost (table_plan h routes joints) (interface_at h d) (port_of from) (then_lost stood step h w e) l))

-- the loop went to its end
pub stands_on_lem : {routes : List (List ℕ)} {joints : List ℕ} {d from i at k : ℕ} {want : Joint} (h : Head)
    → want ≡ joint_of (interface_at h d)
    → Stood routes joints d want from i at → i ≡ k
    → On at ≡ step_of (walked (table_plan h routes joints) (interface_at h d) k (port_of from))
stands_on_lem {routes} {joints} {d} {from} {i} {at} {k} {want} h w stood e =
    ap On (sym (number_of_port at))
    ∙ ap step_of (sym (stood.there h w))
    ∙ ap (λ (n : ℕ). step_of (walked (table_plan h routes joints) (interface_at h d) n (port_of from))) e

-- ---- a router's index
module _ (pl : Plan) (e : Interface) (x : Port) (r : ℕ) where
  pub index_none : index_in pl e x r 0 ≡ none
  unfolding index_in
  index_none = refl

  pub index_off : (n : ℕ) → index_in pl e x r n ≡ none → stands_on r (walked pl e n x) ≡ false
      → index_in pl e x r (suc n) ≡ none
  unfolding index_in
  index_off n f g = rw (f, g)

  pub index_at : (n : ℕ) → index_in pl e x r n ≡ none → stands_on r (walked pl e n x) ≡ true
      → index_in pl e x r (suc n) ≡ some n
  unfolding index_in
  index_at n f g = rw (f, g)

  -- once met it stays
  pub index_stays : (m n k : ℕ) → index_in pl e x r n ≡ some k → index_in pl e x r (m + n) ≡ some k
  unfolding index_in
  index_stays zero n k f = rw zero-add f
  index_stays (suc m) n k f = rw (suc-add, index_stays m n k f)
