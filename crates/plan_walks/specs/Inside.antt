-- Over the tables a walk that starts on a port stands only on ports: a router below 16, a side below 4, so a number
-- below 64.
use Rattle.std.specs.Prelude.{◌≡◌, ◌⊎◌, true, false, List, eqb, ltb, get_or}
use Rattle.std.proofs.Math.Path.{refl, ap}
use Rattle.std.proofs.Common.{sym, ◌∙◌, inl, inr, arith}
use Prim.Native.Nat.{ℕ, zero, suc, ◌+◌, ◌*◌, ◌/◌, ◌%◌, ◌<◌}
use Rattle.basis.specs.Choice.{test}
use Rattle.basis.specs.Walk.{Spot, on, end, lost, on_end, on_lost, on_same, go, spot}
use Rattle.plan.specs.declared.Head.{Head}
use Rattle.plan.specs.Plan.{Port, Interface, route_to}
use Rattle.plan.specs.Rules.{port_of, leads_to}
use Rattle.plan.specs.Tables.{table_plan, joint_of_byte}
use Rattle.plan_walks.specs.declared.Step.{Step}
use Rattle.plan_walks.specs.declared.Step.TheVariants.{On, End, Lost}
use Rattle.plan_walks.specs.Walk.{into, through, onward, walked}
use Rattle.plan_walks.specs.Steps.{port_number, step_of}

abbrev pub Inside : Port → Type 0
Inside x = (x.router < 16) × (x.side < 4)

-- ---- a port and its number
pub port_inside : (n : ℕ) → n < 64 → Inside (port_of n)
port_inside n l = (omega arith, omega arith)

pub number_below : (x : Port) → Inside x → port_number x < 64
number_below x (r, s) = omega arith

pub port_of_number : (x : Port) → x.side < 4 → port_of (port_number x) ≡ x
port_of_number x s =
    let r : (4 * x.router + x.side) / 4 ≡ x.router = omega arith in
    let t : (4 * x.router + x.side) % 4 ≡ x.side = omega arith in
    λ i. record { router = r i; side = t i }

pub number_of_port : (n : ℕ) → port_number (port_of n) ≡ n
number_of_port n = omega arith

-- ---- a joint's byte leads to a port
pub into_inside : (v : ℕ) (y : Port) → into (joint_of_byte v) ≡ on y → Inside y
unfolding joint_of_byte
into_inside v y e = by (test (eqb (v / 64) 1)) (test (eqb (v / 64) 2)) (test (eqb (v / 64) 3))
  where
    by : (eqb (v / 64) 1 ≡ true) ⊎ (eqb (v / 64) 1 ≡ false) → (eqb (v / 64) 2 ≡ true) ⊎ (eqb (v / 64) 2 ≡ false)
        → (eqb (v / 64) 3 ≡ true) ⊎ (eqb (v / 64) 3 ≡ false) → Inside y
    by (inl a) b d = rw (← on_same (rw a at e)) (omega arith, omega arith)
    by (inr a) (inl b) d = absurd (on_lost (sym (rw (a, b) at e)))
    by (inr a) (inr b) (inl d) = absurd (on_lost (sym (rw (a, b, d) at e)))
    by (inr a) (inr b) (inr d) = absurd (on_lost (sym (rw (a, b, d) at e)))

through_inside : (j : Interface) (v : ℕ) (y : Port) → through j (joint_of_byte v) ≡ on y → Inside y
through_inside j v y e = by (test (leads_to j (joint_of_byte v)))
  where
    by : (leads_to j (joint_of_byte v) ≡ true) ⊎ (leads_to j (joint_of_byte v) ≡ false) → Inside y
    by (inl t) = absurd (on_end (sym (rw t at e)))
    by (inr t) = into_inside v y (rw t at e)

module _ (h : Head) (routes : List (List ℕ)) (joints : List ℕ) (j : Interface) where
  joint_inside : (r s : ℕ) (y : Port) → through j ((table_plan h routes joints).joint r s) ≡ on y → Inside y
  unfolding table_plan
  joint_inside r s y e = by (test (ltb s 4))
    where
      by : (ltb s 4 ≡ true) ⊎ (ltb s 4 ≡ false) → Inside y
      by (inl t) = through_inside j (get_or joints (4 * r + s) 0) y (rw t at e)
      by (inr t) = absurd (on_lost (sym (rw t at e)))

  -- ---- so each step does
  pub onward_inside : (x y : Port) → onward (table_plan h routes joints) j x ≡ on y → Inside y
  unfolding onward
  onward_inside x y e = joint_inside x.router (route_to (table_plan h routes joints) j x.router) y e

  -- and the walk
  pub walked_inside : (k : ℕ) (x y : Port) → Inside x → walked (table_plan h routes joints) j k x ≡ on y → Inside y
  unfolding spot
  walked_inside zero x y i e = rw (← on_same e) i
  walked_inside (suc k) x y i e = by (walked (table_plan h routes joints) j k x) refl
    where
      by : (z : Spot Port) → walked (table_plan h routes joints) j k x ≡ z → Inside y
      by (on w) q = onward_inside w y (sym (ap (go (onward (table_plan h routes joints) j)) q) ∙ e)
      by end q = absurd (on_end (sym e ∙ ap (go (onward (table_plan h routes joints) j)) q))
      by lost q = absurd (on_lost (sym e ∙ ap (go (onward (table_plan h routes joints) j)) q))

-- ---- what a step's answer tells of the spot: it is on the port of that number
pub on_of_step : (z : Spot Port) {s : Step} {n : ℕ} → ((y : Port) → z ≡ on y → Inside y) → s ≡ step_of z → s ≡ On n
    → (z ≡ on (port_of n)) × (n < 64)
on_of_step (on y) {s} {n} f e q =
    let same : port_number y ≡ n = cc in
    let i = f y refl in
    (ap on (sym (port_of_number y i.1) ∙ ap port_of same), rw (← same) (number_below y i))
on_of_step end f e q = let z : ◌≡◌ {A = ℕ} 0 1 = cc in absurd (omega arith)
on_of_step lost f e q = let z : ◌≡◌ {A = ℕ} 0 1 = cc in absurd (omega arith)

-- it is the end
pub end_of_step : (z : Spot Port) {s : Step} → s ≡ step_of z → s ≡ End → z ≡ end
end_of_step (on y) e q = cc
end_of_step end e q = refl
end_of_step lost e q = cc

-- it is nowhere
pub lost_of_step : (z : Spot Port) {s : Step} → s ≡ step_of z → s ≡ Lost → z ≡ lost
lost_of_step (on y) e q = cc
lost_of_step end e q = cc
lost_of_step lost e q = refl

-- ---- so what the code tells of a walk from a port is the port that the walk stands on
pub on_of_walk : (h : Head) (routes : List (List ℕ)) (joints : List ℕ) (j : Interface) (from k : ℕ) {s : Step} {n : ℕ}
    → from < 64
    → s ≡ step_of (walked (table_plan h routes joints) j k (port_of from)) → s ≡ On n
    → (walked (table_plan h routes joints) j k (port_of from) ≡ on (port_of n)) × (n < 64)
on_of_walk h routes joints j from k l e q =
    on_of_step (walked (table_plan h routes joints) j k (port_of from))
    (λ y. walked_inside h routes joints j k (port_of from) y (port_inside from l)) e q
