-- A loop along a walk: the port that the walk stands on, one more step, and what the loop's ends tell of the walk.
use mathlib.Core.Path.{◌≡◌, sym, ap, ◌∙◌}
use mathlib.Core.List.{List}
use Prim.Native.Nat.{ℕ, suc, ◌+◌, ◌-◌, ◌<◌}
use native.Mathlib.Numerals.{add-one}
use native.Mathlib.Omega.{arith}
use Rattle.basis.specs.Walk.{Spot, on, end, lost, spot_none, spot_next, spot_end, spot_lost}
use Rattle.plan.specs.declared.Head.{Head}
use Rattle.plan.specs.declared.Joint.{Joint}
use Rattle.plan.specs.Plan.{Plan, Port, Interface, joint_of}
use Rattle.plan.specs.Rules.{port_of}
use Rattle.plan.specs.Tables.{table_plan, interface_at}
use Rattle.plan_walks.specs.declared.Step.{Step}
use Rattle.plan_walks.specs.declared.Step.TheVariants.{On, End, Lost}
use Rattle.plan_walks.specs.Walk.{onward, walked}
use Rattle.plan_walks.specs.Steps.{Stepped}
use Rattle.plan_walks.specs.Inside.{onward_inside, on_of_step, end_of_step, lost_of_step}

-- After i routers the walk from a port stands on the port numbered at, under every head for which `want` is wanted
pub record Stood (routes : List (List ℕ)) (joints : List ℕ) (d : ℕ) (want : Joint) (from i at : ℕ) : Type 0 where
  pub below : at < 64
  pub there : (h : Head) → want ≡ joint_of (interface_at h d)
      → walked (table_plan h routes joints) (interface_at h d) i (port_of from) ≡ on (port_of at)

-- ---- before the loop
pub stood_none : (routes : List (List ℕ)) (joints : List ℕ) (d : ℕ) (want : Joint) (from : ℕ) → from < 64
    → Stood routes joints d want from 0 from
stood_none routes joints d want from l = record {
  below = l;
  there = λ h w. spot_none (onward (table_plan h routes joints) (interface_at h d)) (on (port_of from));
}

-- ---- a step of the loop
module _ {routes : List (List ℕ)} {joints : List ℕ} {d from i at : ℕ} {want : Joint} {s : Step}
    (stood : Stood routes joints d want from i at)
    (step : Stepped routes joints d want at s) (h : Head) (w : want ≡ joint_of (interface_at h d)) where
  after : (z : Spot Port) → onward (table_plan h routes joints) (interface_at h d) (port_of at) ≡ z
      → walked (table_plan h routes joints) (interface_at h d) (suc i) (port_of from) ≡ z
  after z e =
      spot_next (onward (table_plan h routes joints) (interface_at h d)) i (on (port_of from)) (stood.there h w) ∙ e

  -- the next port
  then_on : {n : ℕ} → s ≡ On n
      → (walked (table_plan h routes joints) (interface_at h d) (suc i) (port_of from) ≡ on (port_of n)) × (n < 64)
  then_on {n} e =
      let f = on_of_step (onward (table_plan h routes joints) (interface_at h d) (port_of at))
      (onward_inside h routes joints (interface_at h d) (port_of at)) (step h w) e in
      (after (on (port_of n)) f.0, f.1)

  -- the end
  pub last_is : s ≡ End → onward (table_plan h routes joints) (interface_at h d) (port_of at) ≡ end
  last_is e = end_of_step (onward (table_plan h routes joints) (interface_at h d) (port_of at)) (step h w) e

  pub then_end : s ≡ End → walked (table_plan h routes joints) (interface_at h d) (suc i) (port_of from) ≡ end
  then_end e = after end (last_is e)

  -- nowhere
  pub then_lost : s ≡ Lost → walked (table_plan h routes joints) (interface_at h d) (suc i) (port_of from) ≡ lost
  then_lost e =
      after lost (lost_of_step (onward (table_plan h routes joints) (interface_at h d) (port_of at)) (step h w) e)

pub stood_more : {routes : List (List ℕ)} {joints : List ℕ} {d from i at n : ℕ} {want : Joint} {s : Step}
    → Stood routes joints d want from i at
    → Stepped routes joints d want at s → s ≡ On n → (h : Head) → want ≡ joint_of (interface_at h d)
    → Stood routes joints d want from (i + 1) n
stood_more stood step e h w =
    record { below = (then_on stood step h w e).1; there = λ k v. rw add-one (then_on stood step k v e).0 }

-- ---- a walk that is over stays so
pub still_end : (pl : Plan) (e : Interface) (x : Port) {i n : ℕ} → walked pl e (suc i) x ≡ end → i < n
    → walked pl e n x ≡ end
still_end pl e x {i} {n} q l =
    let at : n - suc i + suc i ≡ n = omega arith in
    ap (λ (m : ℕ). walked pl e m x) (sym at) ∙ spot_end (onward pl e) (suc i) (on x) q (n - suc i)

pub still_lost : (pl : Plan) (e : Interface) (x : Port) {i n : ℕ} → walked pl e (suc i) x ≡ lost → i < n
    → walked pl e n x ≡ lost
still_lost pl e x {i} {n} q l =
    let at : n - suc i + suc i ≡ n = omega arith in
    ap (λ (m : ℕ). walked pl e m x) (sym at) ∙ spot_lost (onward pl e) (suc i) (on x) q (n - suc i)
