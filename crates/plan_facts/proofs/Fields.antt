-- Fields of the plan's bytes: how large they are; refusal 3's fill bits; refusal 4's ranges.
use mathlib.Core.Path.{◌≡◌, sym, ap, ◌∙◌}
use mathlib.Core.Logic.{◌⊎◌, inl, inr}
use mathlib.Core.Bool.{true, false}
use mathlib.Core.List.{List}
use Prim.Native.Nat.{ℕ, ◌+◌, ◌*◌, ◌-◌, ◌/◌, ◌%◌, ◌<◌}
use native.Mathlib.Nat.{add-zero, zero-add}
use native.Mathlib.Omega.{arith}
use lib.Dec.{eqb, ltb}
use lib.ListN.{length}
use borrow.Author.Tests.{ltb-true, eqb-true, eqb-false, lt-ltb, eq-eqb}
use Rattle.basis.specs.Choice.{test}
use Rattle.basis.specs.Bounded.{all_below, all_at, all_of, or_cases}
use Rattle.fields.specs.Bits.{bit_at, field_of}
use Rattle.fields.specs.Laws.{field_lt}
use Rattle.plan.specs.declared.Head.{Head}
use Rattle.plan.specs.Head.{head_of, destinations, bit_count}
use Rattle.plan.specs.Plan.{joint_at, route_at, no_side}
use Rattle.plan.specs.Rules.{Filled, fill_ok, JointFits, joint_ok, RouteFits, route_ok, FieldsFit, joint_there}
use Rattle.plan.specs.Rules.{route_there}
use Rattle.plan.specs.Rules.{fields_ok}
use Rattle.plan_facts.proofs.Heads.{and_both, and_of}

-- A field of one bit is that bit.
pub field_one : (b : List ℕ) (p : ℕ) → field_of b p 1 ≡ bit_at b p
unfolding field_of
field_one b p = rw add-zero (zero-add (bit_at b p))

-- ---- refusal 3: the fill bits
-- No fill bit is set where the test of the fill passes.
pub fill_ok_lem : (b : List ℕ) → fill_ok b (bit_count (head_of b)) ≡ true → Filled b
unfolding fill_ok
fill_ok_lem b e i h l =
    let from : ℕ = bit_count (head_of b) in
    let here : from + (i - from) ≡ i = omega arith in
    let zero-there = all_at (8 * length b - from) (λ j. eqb (field_of b (from + j) 1) 0) e (i - from) (omega arith) in
    sym (field_one b i) ∙ ap (λ (j : ℕ). field_of b j 1) (sym here)
    ∙ eqb-true (field_of b (from + (i - from)) 1) 0 zero-there

-- The test of the fill passes where no fill bit is set.
pub ok_fill : (b : List ℕ) → Filled b → fill_ok b (bit_count (head_of b)) ≡ true
unfolding fill_ok
ok_fill b f =
    let from : ℕ = bit_count (head_of b) in
    all_of (8 * length b - from) (λ j. eqb (field_of b (from + j) 1) 0)
    (λ j l. eq-eqb (field_of b (from + j) 1) 0 (field_one b (from + j) ∙ f (from + j) (omega arith) (omega arith)))

-- ---- refusal 4: one joint, one route
-- A joint that passes the test fits.
pub joint_ok_lem : (h : Head) (kind number side : ℕ) → kind < 4 → joint_ok h kind number side ≡ true
    → JointFits h kind number side
unfolding joint_ok
joint_ok_lem h kind number side small e = at0 (test (eqb kind 0))
  where
    at2 : eqb kind 0 ≡ false → eqb kind 1 ≡ false → (eqb kind 2 ≡ true) ⊎ (eqb kind 2 ≡ false)
        → JointFits h kind number side
    at2 n0 n1 (inl t) =
        let p = and_both (rw (n0, n1, t) at e) in
        inr (inr (inl (eqb-true kind 2 t, ltb-true number h.actives p.0, eqb-true side 0 p.1)))
    at2 n0 n1 (inr t) =
        let a0 = eqb-false kind 0 n0 in
        let a1 = eqb-false kind 1 n1 in
        let a2 = eqb-false kind 2 t in
        let three : kind ≡ 3 = omega arith in
        let p = and_both (rw (n0, n1, t) at e) in
        inr (inr (inr (three, ltb-true number h.passives p.0, eqb-true side 0 p.1)))

    at1 : eqb kind 0 ≡ false → (eqb kind 1 ≡ true) ⊎ (eqb kind 1 ≡ false) → JointFits h kind number side
    at1 n0 (inl t) = inr (inl (eqb-true kind 1 t, ltb-true number h.routers (rw (n0, t) at e)))
    at1 n0 (inr t) = at2 n0 t (test (eqb kind 2))

    at0 : (eqb kind 0 ≡ true) ⊎ (eqb kind 0 ≡ false) → JointFits h kind number side
    at0 (inl t) =
        let p = and_both (rw t at e) in
        inl (eqb-true kind 0 t, eqb-true number 0 p.0, eqb-true side 0 p.1)
    at0 (inr t) = at1 t (test (eqb kind 1))

-- A joint that fits passes the test.
pub ok_joint : (h : Head) (kind number side : ℕ) → JointFits h kind number side → joint_ok h kind number side ≡ true
unfolding joint_ok
ok_joint h kind number side f = by f
  where
    by : JointFits h kind number side → joint_ok h kind number side ≡ true
    by (inl (k, n, s)) = rw (k, n, s)
    by (inr (inl (k, n))) = rw (k, lt-ltb number h.routers n)
    by (inr (inr (inl (k, n, s)))) = rw (k, s, lt-ltb number h.actives n)
    by (inr (inr (inr (k, n, s)))) = rw (k, s, lt-ltb number h.passives n)

-- A route that passes the test fits.
pub route_ok_lem : (side : ℕ) → route_ok side ≡ true → RouteFits side
unfolding route_ok
route_ok_lem side e = by (or_cases (ltb side 4) (eqb side no_side) e)
  where
    by : (ltb side 4 ≡ true) ⊎ (eqb side no_side ≡ true) → RouteFits side
    by (inl t) = inl (ltb-true side 4 t)
    by (inr t) = inr (eqb-true side no_side t)

-- A route that fits passes the test.
pub ok_route : (side : ℕ) → RouteFits side → route_ok side ≡ true
unfolding route_ok
ok_route side (inl l) = rw (lt-ltb side 4 l)
ok_route side (inr q) = rw q

-- ---- refusal 4: all later fields
-- Later fields that pass the test are in their ranges.
pub fields_ok_lem : (b : List ℕ) → fields_ok b ≡ true → FieldsFit b
unfolding fields_ok
fields_ok_lem b e = let parts = and_both e in record { joints = joints' parts.0; routes = routes' parts.1 }
  where
    joints' : all_below (4 * (head_of b).routers) (λ i. joint_there b (45 + 8 * i)) ≡ true
        → (r s : ℕ) → r < (head_of b).routers → s < 4
        → JointFits (head_of b) (field_of b (joint_at r s) 2) (field_of b (joint_at r s + 2) 4)
        (field_of b (joint_at r s + 6) 2)
    joints' t r s l m =
        let p : ℕ = joint_at r s in
        let here : 45 + 8 * (4 * r + s) ≡ p = omega arith in
        let passes = all_at (4 * (head_of b).routers) (λ i. joint_there b (45 + 8 * i)) t (4 * r + s) (omega arith) in
        joint_ok_lem (head_of b) (field_of b p 2) (field_of b (p + 2) 4) (field_of b (p + 6) 2) (field_lt b p 2)
        (ap (joint_there b) (sym here) ∙ passes)

    routes' : all_below (head_of b).routers (λ r. all_below (destinations (head_of b)) (route_there b r)) ≡ true
        → (r d : ℕ) → r < (head_of b).routers → d < destinations (head_of b)
        → RouteFits (field_of b (route_at (head_of b) r d) 3)
    routes' t r d l m =
        let row = all_at (head_of b).routers (λ q. all_below (destinations (head_of b)) (route_there b q)) t r l in
        route_ok_lem (field_of b (route_at (head_of b) r d) 3) (all_at (destinations (head_of b)) (route_there b r) row
        d m)

-- Later fields in their ranges pass the test.
pub ok_fields : (b : List ℕ) → FieldsFit b → fields_ok b ≡ true
unfolding fields_ok
ok_fields b f =
    and_of (all_of (4 * (head_of b).routers) (λ i. joint_there b (45 + 8 * i)) joint')
    (all_of (head_of b).routers (λ r. all_below (destinations (head_of b)) (route_there b r))
    (λ r l. all_of (destinations (head_of b)) (route_there b r)
    (λ d m. ok_route (field_of b (route_at (head_of b) r d) 3) (f.routes r d l m))))
  where
    joint' : (i : ℕ) → i < 4 * (head_of b).routers → joint_there b (45 + 8 * i) ≡ true
    joint' i l =
        let p : ℕ = joint_at (i / 4) (i % 4) in
        let here : 45 + 8 * i ≡ p = omega arith in
        ap (joint_there b) here
        ∙ ok_joint (head_of b) (field_of b p 2) (field_of b (p + 2) 4) (field_of b (p + 6) 2)
        (f.joints (i / 4) (i % 4) (omega arith) (omega arith))
