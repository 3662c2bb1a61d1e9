-- What wired joints give to those who walk; and the tests of the bytes give wired joints.
use mathlib.Core.Path.{◌≡◌, sym, ap, subst, ◌∙◌}
use mathlib.Core.Logic.{◌⊎◌, inl, inr}
use mathlib.Core.Bool.{Bool, true, false}
use mathlib.Core.List.{List}
use Prim.Native.Nat.{ℕ, ◌+◌, ◌<◌}
use lib.Dec.{eqb, ltb}
use borrow.Author.Tests.{ltb-true, lt-ltb}
use Rattle.basis.specs.Choice.{pick, test}
use Rattle.fields.specs.Bits.{field_of}
use Rattle.plan.specs.declared.Joint.TheVariants.{Nothing, Router, Active, Passive}
use Rattle.plan.specs.Head.{head_of}
use Rattle.plan.specs.Plan.{Plan, Interface, active, passive, R, Has, joint_of, joint_at, joint_from, joint_in, plan_of}
use Rattle.plan.specs.Rules.{JointFits, FieldsFit, JointsMatch, home, named_ok, interfaces_ok}
use Rattle.fields.specs.Laws.{field_lt}
use Rattle.plan_facts.proofs.Joints.{Inside, Sided, router_some, interface_some, router_else, interface_same}
use Rattle.plan_facts.proofs.Joints.{named_ok_lem, interfaces_ok_lem, joints_ok, ok_joints}
use Rattle.plan_facts.specs.Wired.{Wired}

-- A router joint leads to a side of one of the plan's routers.
pub near : {pl : Plan} {r s n t : ℕ} → Wired pl → pl.joint r s ≡ Router n t → (n < R pl) × (t < 4)
near {pl} {r} {s} {n} {t} w e = w.inside n t (λ q. router_some (sym (w.named r s n t e).1 ∙ q))

-- An interface's home is a side of one of the plan's routers.
pub home_inside : {pl : Plan} (e : Interface) → Wired pl → Has pl e
    → ((home pl e).router < R pl) × ((home pl e).side < 4)
home_inside {pl} e w h =
    w.inside (home pl e).router (home pl e).side (λ q. interface_some e (sym (w.joined e h).there ∙ q))

-- ---- the joints of a plan's bytes
-- The joint of a side inside the plan is the one that its bits give.
pub plan_joint : (b : List ℕ) (r s : ℕ) → r < (head_of b).routers → s < 4 → (plan_of b).joint r s ≡ joint_in b
    (joint_at r s)
unfolding plan_of
plan_joint b r s l m = rw (lt-ltb r (head_of b).routers l, lt-ltb s 4 m)

-- Nothing is joined outside the routers and sides of the plan that bytes give.
pub plan_inside : (b : List ℕ) → Inside (plan_of b)
unfolding plan_of
plan_inside b r s some = by (test (ltb r (head_of b).routers)) (test (ltb s 4))
  where
    by : (ltb r (head_of b).routers ≡ true) ⊎ (ltb r (head_of b).routers ≡ false)
        → (ltb s 4 ≡ true) ⊎ (ltb s 4 ≡ false) → (r < (head_of b).routers) × (s < 4)
    by (inl e) (inl f) = (ltb-true r (head_of b).routers e, ltb-true s 4 f)
    by (inl e) (inr f) = absurd (some (rw (e, f)))
    by (inr e) c = absurd (some (rw e))

-- A router joint's side is the side given.
pub from_side : (kind number side : ℕ) {n t : ℕ} → joint_from kind number side ≡ Router n t → side ≡ t
from_side kind number side {n} {t} q = by (eqb kind 1) (eqb kind 2) (eqb kind 3) q
  where
    by : (x y z : Bool) → pick x (Router number side) (pick y (Active number) (pick z (Passive number) Nothing))
        ≡ Router n t → side ≡ t
    by true y z e = cc
    by false true z e = cc
    by false false true e = cc
    by false false false e = cc

-- A router joint in the plan that bytes give names one of four sides.
pub plan_sided : (b : List ℕ) → Sided (plan_of b)
unfolding joint_in plan_of
plan_sided b r s n t j =
    let p : ℕ = joint_at r s in
    let within = plan_inside b r s (λ q. router_some (sym j ∙ q)) in
    let same = from_side (field_of b p 2) (field_of b (p + 2) 4) (field_of b (p + 6) 2)
    (sym (plan_joint b r s within.0 within.1) ∙ j) in
    rw same at (field_lt b (p + 6) 2)

-- A joint that fits and leads to an interface leads to one of the plan's.
pub fits_known : (pl : Plan) (kind number side : ℕ) (e : Interface) → JointFits pl.head kind number side
    → joint_from kind number side ≡ joint_of e → Has pl e
fits_known pl kind number side e f q = by f
  where
    at : (k : ℕ) → kind ≡ k → joint_from k number side ≡ joint_of e
    at k s = ap (λ (x : ℕ). joint_from x number side) (sym s) ∙ q

    by : JointFits pl.head kind number side → Has pl e
    by (inl (k, n, s)) = absurd (interface_some e (sym (at 0 k)))
    by (inr (inl (k, n))) = absurd (router_else e (at 1 k))
    by (inr (inr (inl (k, n, s)))) = subst (Has pl) (interface_same (active number) e (at 2 k)) n
    by (inr (inr (inr (k, n, s)))) = subst (Has pl) (interface_same (passive number) e (at 3 k)) n

-- The plan of bytes whose later fields are in range, and whose joints pass both tests, is wired.
pub wired : (b : List ℕ) → FieldsFit b → named_ok (plan_of b) ≡ true → interfaces_ok (plan_of b) ≡ true → Wired
    (plan_of b)
unfolding joint_in plan_of
wired b f n i =
    record {
      inside = plan_inside b;
      named = named_ok_lem (plan_of b) (plan_inside b) (plan_sided b) n;
      joined = interfaces_ok_lem (plan_of b) (plan_inside b) i;
      known = known';
    }
  where
    known' : (r s : ℕ) (e : Interface) → (plan_of b).joint r s ≡ joint_of e → Has (plan_of b) e
    known' r s e j =
        let p : ℕ = joint_at r s in
        let within = plan_inside b r s (λ q. interface_some e (sym j ∙ q)) in
        fits_known (plan_of b) (field_of b p 2) (field_of b (p + 2) 4) (field_of b (p + 6) 2) e
        (f.joints r s within.0 within.1)
        (sym (plan_joint b r s within.0 within.1) ∙ j)

-- Joints of the plan that bytes give that pass both tests match.
pub plan_match : (b : List ℕ) → named_ok (plan_of b) ≡ true → interfaces_ok (plan_of b) ≡ true → JointsMatch (plan_of b)
plan_match b = joints_ok (plan_of b) (plan_inside b) (plan_sided b)

-- Joints of the plan that bytes give that match pass both tests.
pub match_plan : (b : List ℕ) → JointsMatch (plan_of b) → (named_ok (plan_of b) ≡ true) ×
    (interfaces_ok (plan_of b) ≡ true)
match_plan b = ok_joints (plan_of b) (plan_inside b)
