-- One step of a walk over the tables: the side that a row gives, the byte of a joint, and the walk through that joint.
use mathlib.Core.Path.{◌≡◌, refl, sym, ap, ◌∙◌}
use mathlib.Core.Logic.{◌⊎◌, inl, inr}
use mathlib.Core.Bool.{true, false}
use mathlib.Core.List.{List, [], ◌∷◌}
use Prim.Native.Nat.{ℕ, zero, suc, ◌+◌, ◌*◌, ◌-◌, ◌/◌, ◌≤◌, ◌<◌}
use native.Mathlib.Nat.{not-suc-le-zero, le_of_suc-le-suc}
use native.Mathlib.Omega.{arith}
use lib.Dec.{ltb}
use lib.ListN.{length, get_or}
use borrow.Author.Tests.{ltb-false, lt-ltb, le-ltb}
use Rattle.basis.specs.Choice.{test}
use Rattle.basis.specs.Walk.{Spot, on, end, lost}
use Rattle.plan.specs.declared.Head.{Head}
use Rattle.plan.specs.declared.Joint.{Joint}
use Rattle.plan.specs.declared.Joint.TheVariants.{Nothing, Router, Active, Passive}
use Rattle.plan.specs.Plan.{Port, Interface, no_side, route_to, joint_of}
use Rattle.plan.specs.Rules.{port_of}
use Rattle.plan.specs.Tables.{table_plan, interface_at, joint_of_byte}
use Rattle.plan_walks.specs.declared.Step.TheVariants.{On, End, Lost}
use Rattle.plan_walks.specs.Walk.{into, through, onward}
use Rattle.plan_walks.specs.Steps.{step_of}
use Rattle.plan_walks.specs.Inside.{into_inside}
use Rattle.plan.proofs.JointLaws.{leads_same, leads_other}

-- ---- within a list's length an element does not depend on the default
pub same_default : (l : List ℕ) (i a b : ℕ) → i < length l → get_or l i a ≡ get_or l i b
same_default [] i a b h = absurd (not-suc-le-zero h)
same_default (x ∷ l) zero a b h = refl
same_default (x ∷ l) (suc i) a b h = same_default l i a b (le_of_suc-le-suc h)

-- ---- a joint tells where the walk to an interface goes through it: it is there where the joint is the interface's
through_end : (e : Interface) (j : Joint) → j ≡ joint_of e → through e j ≡ end
through_end e j q = rw (leads_same e j q)

-- and else where the joint leads into
through_other : (e : Interface) (j : Joint) → (j ≡ joint_of e → ⊥) → through e j ≡ into j
through_other e j f = rw (leads_other e j f)

-- nowhere, if it is no router's
into_lost : (j : Joint) → ((n t : ℕ) → j ≡ Router n t → ⊥) → into j ≡ lost
into_lost Nothing f = refl
into_lost (Router n t) f = absurd (f n t refl)
into_lost (Active n) f = refl
into_lost (Passive n) f = refl

-- the joint of a byte is to one of sixteen routers, at one of four sides
pub router_small : (v : ℕ) {n t : ℕ} {j : Joint} → j ≡ joint_of_byte v → j ≡ Router n t → (n < 16) × (t < 4)
router_small v {n} {t} e q = into_inside v (record { router = n; side = t }) (ap into (sym e ∙ q))

-- ---- a step over the tables
module _ (h : Head) (routes : List (List ℕ)) (joints : List ℕ) (d : ℕ) where
  -- the side given for the interface of column d stands in that column
  pub route_is : (r : ℕ) {v : ℕ} → v ≡ get_or (get_or routes r []) d no_side
      → v ≡ route_to (table_plan h routes joints) (interface_at h d) r
  unfolding table_plan
  route_is r {v} e = by (test (ltb d h.actives))
    where
      by : (ltb d h.actives ≡ true) ⊎ (ltb d h.actives ≡ false)
          → v ≡ route_to (table_plan h routes joints) (interface_at h d) r
      by (inl t) = rw t e
      by (inr t) =
          let l = ltb-false d h.actives t in
          let same : h.actives + (d - h.actives) ≡ d = omega arith in
          rw (t, same) e

  joint_none : (r s : ℕ) → 3 < s → (table_plan h routes joints).joint r s ≡ Nothing
  unfolding table_plan
  joint_none r s l = rw (le-ltb s 4 (omega arith))

  joint_is : (r s : ℕ) → s ≤ 3 → (table_plan h routes joints).joint r s ≡ joint_of_byte (get_or joints (4 * r + s) 0)
  unfolding table_plan
  joint_is r s l = rw (lt-ltb s 4 (omega arith))

  module _ (at : ℕ) {s side : ℕ} (given : (k : Head) (js : List ℕ)
      → side ≡ route_to (table_plan k routes js) (interface_at k d) (at / 4)) (wide : s ≡ side) where
    by_side : (j : Joint) → (table_plan h routes joints).joint (at / 4) s ≡ j → step_of
        (onward (table_plan h routes joints) (interface_at h d) (port_of at)) ≡ step_of (through (interface_at h d) j)
    unfolding onward
    by_side j e = ap (λ (i : Joint). step_of (through (interface_at h d) i))
        (ap ((table_plan h routes joints).joint (at / 4)) (sym (wide ∙ given h joints)) ∙ e)

    -- ---- the ends of the code's step: no side is given
    pub step_none : 3 < s → Lost ≡ step_of (onward (table_plan h routes joints) (interface_at h d) (port_of at))
    step_none l = sym (by_side Nothing (joint_none (at / 4) s l))

    module _ (l : s ≤ 3) {j want : Joint} (joint : j ≡ joint_of_byte (get_or joints (4 * (at / 4) + s) 0))
        (w : want ≡ joint_of (interface_at h d)) where
      by_joint : (x : Spot Port) → through (interface_at h d) j ≡ x
          → step_of x ≡ step_of (onward (table_plan h routes joints) (interface_at h d) (port_of at))
      by_joint x e = sym (by_side j (joint_is (at / 4) s l ∙ sym joint) ∙ ap step_of e)

      -- the joint that is wanted
      pub step_end : j ≡ want → End ≡ step_of (onward (table_plan h routes joints) (interface_at h d) (port_of at))
      step_end e = by_joint end (through_end (interface_at h d) j (e ∙ w))

      module _ (other : j ≡ want → ⊥) where
        onto : through (interface_at h d) j ≡ into j
        onto = through_other (interface_at h d) j (λ e. other (e ∙ sym w))

        -- a router's joint
        pub step_on : {n t : ℕ} → j ≡ Router n t
            → On (4 * n + t) ≡ step_of (onward (table_plan h routes joints) (interface_at h d) (port_of at))
        step_on {n} {t} e = by_joint (on (record { router = n; side = t })) (onto ∙ ap into e)

        -- any other
        pub step_lost : ((n t : ℕ) → j ≡ Router n t → ⊥)
            → Lost ≡ step_of (onward (table_plan h routes joints) (interface_at h d) (port_of at))
        step_lost f = by_joint lost (onto ∙ into_lost j f)
