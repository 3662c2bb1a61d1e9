-- What a joint's byte says, by its kind; that comparing bytes is what the tests of joints do. Assumes nothing.
use mathlib.Core.Path.{◌≡◌, refl, sym, ap, ◌∙◌}
use mathlib.Core.Logic.{◌⊎◌, inl, inr}
use mathlib.Core.Bool.{Bool, true, false, not, ◌&&◌, ◌||◌, true≢false}
use mathlib.Core.List.{List, []}
use Prim.Native.Nat.{ℕ, zero, suc, ◌+◌, ◌*◌, ◌-◌, ◌/◌, ◌%◌, ◌≤◌, ◌<◌}
use native.Mathlib.Omega.{arith}
use lib.Dec.{eqb, ltb}
use lib.ListN.{get_or, set}
use borrow.Author.Tests.{eqb-true, eqb-false, eq-eqb, ne_eqb, lt-ltb, le-ltb, ltb-true}
use Rattle.basis.specs.Choice.{test, same_test}
use Rattle.basis.specs.Bounded.{lt_or_ge}
use Rattle.plan.specs.declared.Head.{Head}
use Rattle.plan.specs.declared.Joint.TheVariants.{Nothing, Router, Active, Passive}
use Rattle.plan.specs.declared.Joint.{Joint}
use Rattle.plan.specs.Plan.{Interface, active, passive, joint_of}
use Rattle.plan.specs.Rules.{joint_of_port, is_router_at, back_ok, leads_to}
use Rattle.plan.specs.Rules.{joint_ok}
use Rattle.plan.specs.Tables.{joint_of_byte, joint_byte_ok, table_plan, interface_at}
use Rattle.plan.specs.Found.{wanted_of, column_of, found_step, mark_of, numbers_of}

-- ---- the four kinds
data Kind (v : ℕ) : Type 0 where
  to_router : v / 64 ≡ 1 → Kind v
  to_active : v / 64 ≡ 2 → Kind v
  to_passive : v / 64 ≡ 3 → Kind v
  to_none : (v / 64 ≡ 1 → ⊥) → (v / 64 ≡ 2 → ⊥) → (v / 64 ≡ 3 → ⊥) → Kind v

kind_of : (v : ℕ) → Kind v
kind_of v = by (test (eqb (v / 64) 1)) (test (eqb (v / 64) 2)) (test (eqb (v / 64) 3))
  where
    by : (eqb (v / 64) 1 ≡ true) ⊎ (eqb (v / 64) 1 ≡ false) → (eqb (v / 64) 2 ≡ true) ⊎ (eqb (v / 64) 2 ≡ false)
        → (eqb (v / 64) 3 ≡ true) ⊎ (eqb (v / 64) 3 ≡ false) → Kind v
    by (inl e) f g = to_router (eqb-true (v / 64) 1 e)
    by (inr e) (inl f) g = to_active (eqb-true (v / 64) 2 f)
    by (inr e) (inr f) (inl g) = to_passive (eqb-true (v / 64) 3 g)
    by (inr e) (inr f) (inr g) = to_none (eqb-false (v / 64) 1 e) (eqb-false (v / 64) 2 f) (eqb-false (v / 64) 3 g)

module _ (v : ℕ) where
  of_router : v / 64 ≡ 1 → joint_of_byte v ≡ Router (v / 4 % 16) (v % 4)
  unfolding joint_of_byte
  of_router e = rw (eq-eqb (v / 64) 1 e)

  of_active : v / 64 ≡ 2 → joint_of_byte v ≡ Active (v / 4 % 16)
  unfolding joint_of_byte
  of_active e = rw (ne_eqb (v / 64) 1 (λ f. omega arith), eq-eqb (v / 64) 2 e)

  of_passive : v / 64 ≡ 3 → joint_of_byte v ≡ Passive (v / 4 % 16)
  unfolding joint_of_byte
  of_passive e = rw (ne_eqb (v / 64) 1 (λ f. omega arith), ne_eqb (v / 64) 2 (λ f. omega arith), eq-eqb (v / 64) 3 e)

  of_none : (v / 64 ≡ 1 → ⊥) → (v / 64 ≡ 2 → ⊥) → (v / 64 ≡ 3 → ⊥) → joint_of_byte v ≡ Nothing
  unfolding joint_of_byte
  of_none e f g = rw (ne_eqb (v / 64) 1 e, ne_eqb (v / 64) 2 f, ne_eqb (v / 64) 3 g)

-- what the joint says, of its byte
joint_clash : {n t m : ℕ} → Router n t ≡ Active m → ⊥
joint_clash e = let z : ◌≡◌ {A = ℕ} 0 1 = cc in omega arith

joint_clash_passive : {n t m : ℕ} → Router n t ≡ Passive m → ⊥
joint_clash_passive e = let z : ◌≡◌ {A = ℕ} 0 1 = cc in omega arith

joint_clash_interfaces : {n m : ℕ} → Active n ≡ Passive m → ⊥
joint_clash_interfaces e = let z : ◌≡◌ {A = ℕ} 0 1 = cc in omega arith

joint_clash_nothing : {n t : ℕ} → Nothing ≡ Router n t → ⊥
joint_clash_nothing e = let z : ◌≡◌ {A = ℕ} 0 1 = cc in omega arith

joint_clash_no_active : {n : ℕ} → Nothing ≡ Active n → ⊥
joint_clash_no_active e = let z : ◌≡◌ {A = ℕ} 0 1 = cc in omega arith

joint_clash_no_passive : {n : ℕ} → Nothing ≡ Passive n → ⊥
joint_clash_no_passive e = let z : ◌≡◌ {A = ℕ} 0 1 = cc in omega arith

router_same : {n t m k : ℕ} → Router n t ≡ Router m k → (m ≡ n) × (k ≡ t)
router_same e = (cc, cc)

active_same : {n m : ℕ} → Active n ≡ Active m → m ≡ n
active_same e = cc

passive_same : {n m : ℕ} → Passive n ≡ Passive m → m ≡ n
passive_same e = cc

pub router_is : (v : ℕ) {n t : ℕ} → joint_of_byte v ≡ Router n t → (v / 64 ≡ 1) × (n ≡ v / 4 % 16) × (t ≡ v % 4)
router_is v {n} {t} q = by (kind_of v)
  where
    by : Kind v → (v / 64 ≡ 1) × (n ≡ v / 4 % 16) × (t ≡ v % 4)
    by (to_router e) = let s = router_same (sym (of_router v e) ∙ q) in (e, s.0, s.1)
    by (to_active e) = absurd (joint_clash (sym q ∙ of_active v e))
    by (to_passive e) = absurd (joint_clash_passive (sym q ∙ of_passive v e))
    by (to_none e f g) = absurd (joint_clash_nothing (sym (of_none v e f g) ∙ q))

pub active_is : (v : ℕ) {n : ℕ} → joint_of_byte v ≡ Active n → (v / 64 ≡ 2) × (n ≡ v / 4 % 16)
active_is v {n} q = by (kind_of v)
  where
    by : Kind v → (v / 64 ≡ 2) × (n ≡ v / 4 % 16)
    by (to_router e) = absurd (joint_clash (sym (of_router v e) ∙ q))
    by (to_active e) = (e, active_same (sym (of_active v e) ∙ q))
    by (to_passive e) = absurd (joint_clash_interfaces (sym q ∙ of_passive v e))
    by (to_none e f g) = absurd (joint_clash_no_active (sym (of_none v e f g) ∙ q))

pub passive_is : (v : ℕ) {n : ℕ} → joint_of_byte v ≡ Passive n → (v / 64 ≡ 3) × (n ≡ v / 4 % 16)
passive_is v {n} q = by (kind_of v)
  where
    by : Kind v → (v / 64 ≡ 3) × (n ≡ v / 4 % 16)
    by (to_router e) = absurd (joint_clash_passive (sym (of_router v e) ∙ q))
    by (to_active e) = absurd (joint_clash_interfaces (sym (of_active v e) ∙ q))
    by (to_passive e) = (e, passive_same (sym (of_passive v e) ∙ q))
    by (to_none e f g) = absurd (joint_clash_no_passive (sym (of_none v e f g) ∙ q))

-- a byte below 256 whose joint is no interface's is below 128
pub no_interface : (v : ℕ) → v < 256 → ((n : ℕ) → joint_of_byte v ≡ Active n → ⊥)
    → ((n : ℕ) → joint_of_byte v ≡ Passive n → ⊥) → v < 128
no_interface v l a p = by (kind_of v)
  where
    by : Kind v → v < 128
    by (to_router e) = omega arith
    by (to_active e) = absurd (a (v / 4 % 16) (of_active v e))
    by (to_passive e) = absurd (p (v / 4 % 16) (of_passive v e))
    by (to_none e f g) = omega arith

-- two tests for equality that come to the same
same_eqb : (a b x y : ℕ) → (a ≡ b → x ≡ y) → (x ≡ y → a ≡ b) → eqb a b ≡ eqb x y
same_eqb a b x y f g =
    same_test (eqb a b) (eqb x y) (λ t. eq-eqb x y (f (eqb-true a b t))) (λ t. eq-eqb a b (g (eqb-true x y t)))

-- a port's joint is that of its byte
pub port_joint : (h : Head) (rs : List (List ℕ)) (js : List ℕ) (i : ℕ)
    → joint_of_port (table_plan h rs js) i ≡ joint_of_byte (get_or js i 0)
unfolding table_plan
port_joint h rs js i =
    let e : 4 * (i / 4) + i % 4 ≡ i = omega arith in
    rw (lt-ltb (i % 4) 4 (omega arith), e)

-- ---- a router's joint is named back: by the byte 64 plus the port's number
router_at : (i w : ℕ) → i < 64 → is_router_at i (joint_of_byte w) ≡ eqb w (64 + i)
router_at i w h = by (kind_of w)
  where
    by : Kind w → is_router_at i (joint_of_byte w) ≡ eqb w (64 + i)
    by (to_router e) =
        rw (of_router w e) (same_eqb (4 * (w / 4 % 16) + w % 4) i w (64 + i) (λ f. omega arith) (λ f. omega arith))
    by (to_active e) = rw (of_active w e) (sym (ne_eqb w (64 + i) (λ f. omega arith)))
    by (to_passive e) = rw (of_passive w e) (sym (ne_eqb w (64 + i) (λ f. omega arith)))
    by (to_none e f g) = rw (of_none w e f g) (sym (ne_eqb w (64 + i) (λ q. e (omega arith))))

module _ (h : Head) (js : List ℕ) (i : ℕ) where
  pub back_none : {j : Joint} → j ≡ joint_of_byte (get_or js i 0) → ((n t : ℕ) → j ≡ Router n t → ⊥)
      → true ≡ back_ok (table_plan h [] js) i (joint_of_port (table_plan h [] js) i)
  back_none {j} known n = rw (port_joint h [] js i, ← known) (by j refl)
    where
      by : (k : Joint) → j ≡ k → true ≡ back_ok (table_plan h [] js) i j
      by (Router m t) e = absurd (n m t e)
      by (Active m) e = rw e
      by (Passive m) e = rw e
      by Nothing e = rw e

  pub back_router : {n t : ℕ} {j : Joint} → i < 64 → j ≡ joint_of_byte (get_or js i 0) → j ≡ Router n t
      → (not (eqb n (i / 4)) && eqb (get_or js (4 * n + t) 0) (64 + i))
      ≡ back_ok (table_plan h [] js) i (joint_of_port (table_plan h [] js) i)
  unfolding table_plan
  back_router {n} {t} l known e =
      let is = router_is (get_or js i 0) (sym known ∙ e) in
      let side : t < 4 = omega (arith, is.2) in
      rw (port_joint h [] js i, ← known, e, lt-ltb t 4 side, router_at i (get_or js (4 * n + t) 0) l)

-- ---- a joint leads to an interface: it is the interface's
pub leads_same : (e : Interface) (j : Joint) → j ≡ joint_of e → leads_to e j ≡ true
leads_same (active a) j e = rw e (eq-eqb a a refl)
leads_same (passive p) j e = rw e (eq-eqb p p refl)

leads_joint : (e : Interface) (j : Joint) → leads_to e j ≡ true → j ≡ joint_of e
leads_joint e Nothing t = absurd (true≢false (sym t))
leads_joint e (Router n k) t = absurd (true≢false (sym t))
leads_joint (active a) (Active n) t = ap Active (eqb-true n a t)
leads_joint (passive p) (Active n) t = absurd (true≢false (sym t))
leads_joint (active a) (Passive n) t = absurd (true≢false (sym t))
leads_joint (passive p) (Passive n) t = ap Passive (eqb-true n p t)

pub leads_other : (e : Interface) (j : Joint) → (j ≡ joint_of e → ⊥) → leads_to e j ≡ false
leads_other e j f = by (test (leads_to e j))
  where
    by : (leads_to e j ≡ true) ⊎ (leads_to e j ≡ false) → leads_to e j ≡ false
    by (inl t) = absurd (f (leads_joint e j t))
    by (inr t) = t

-- ---- kind and number are the wanted ones
leads_active : (a v : ℕ) → a < 16 → leads_to (active a) (joint_of_byte v) ≡ eqb (v / 4) (32 + a)
leads_active a v h = by (kind_of v)
  where
    by : Kind v → leads_to (active a) (joint_of_byte v) ≡ eqb (v / 4) (32 + a)
    by (to_router e) = rw (of_router v e) (sym (ne_eqb (v / 4) (32 + a) (λ f. omega arith)))
    by (to_active e) =
        rw (of_active v e) (same_eqb (v / 4 % 16) a (v / 4) (32 + a) (λ f. omega arith) (λ f. omega arith))
    by (to_passive e) = rw (of_passive v e) (sym (ne_eqb (v / 4) (32 + a) (λ f. omega arith)))
    by (to_none e f g) = rw (of_none v e f g) (sym (ne_eqb (v / 4) (32 + a) (λ q. f (omega arith))))

leads_passive : (p v : ℕ) → p < 16 → leads_to (passive p) (joint_of_byte v) ≡ eqb (v / 4) (48 + p)
leads_passive p v h = by (kind_of v)
  where
    by : Kind v → leads_to (passive p) (joint_of_byte v) ≡ eqb (v / 4) (48 + p)
    by (to_router e) = rw (of_router v e) (sym (ne_eqb (v / 4) (48 + p) (λ f. omega arith)))
    by (to_active e) = rw (of_active v e) (sym (ne_eqb (v / 4) (48 + p) (λ f. omega arith)))
    by (to_passive e) =
        rw (of_passive v e) (same_eqb (v / 4 % 16) p (v / 4) (48 + p) (λ f. omega arith) (λ f. omega arith))
    by (to_none e f g) = rw (of_none v e f g) (sym (ne_eqb (v / 4) (48 + p) (λ q. g (omega arith))))

module _ (h : Head) (act : h.actives ≤ 16) (pas : h.passives ≤ 16) (d : ℕ) (inside : d < h.actives + h.passives)
    (v : ℕ) where
  wanted_active : d < h.actives → wanted_of h.actives d ≡ 32 + d
  unfolding wanted_of
  wanted_active l = rw (lt-ltb d h.actives l)

  wanted_passive : h.actives ≤ d → wanted_of h.actives d ≡ 48 + (d - h.actives)
  unfolding wanted_of
  wanted_passive l = rw (le-ltb d h.actives l)

  pub leads : leads_to (interface_at h d) (joint_of_byte v) ≡ eqb (v / 4) (wanted_of h.actives d)
  leads = by (lt_or_ge d h.actives)
    where
      by : (d < h.actives) ⊎ (h.actives ≤ d)
          → leads_to (interface_at h d) (joint_of_byte v) ≡ eqb (v / 4) (wanted_of h.actives d)
      by (inl l) = rw (lt-ltb d h.actives l, wanted_active l) (leads_active d v (omega arith))
      by (inr l) = rw (le-ltb d h.actives l, wanted_passive l) (leads_passive (d - h.actives) v (omega arith))

-- ---- the column that a byte names
module _ (a p v : ℕ) where
  column_active : v / 64 ≡ 2 → v / 4 % 16 < a → column_of a p v ≡ v / 4 % 16
  unfolding column_of
  column_active e l = rw (eq-eqb (v / 64) 2 e, lt-ltb (v / 4 % 16) a l)

  column_no_active : v / 64 ≡ 2 → a ≤ v / 4 % 16 → column_of a p v ≡ 32
  unfolding column_of
  column_no_active e l = rw (eq-eqb (v / 64) 2 e, le-ltb (v / 4 % 16) a l)

  column_passive : v / 64 ≡ 3 → v / 4 % 16 < p → column_of a p v ≡ a + v / 4 % 16
  unfolding column_of
  column_passive e l = rw (ne_eqb (v / 64) 2 (λ f. omega arith), eq-eqb (v / 64) 3 e, lt-ltb (v / 4 % 16) p l)

  column_no_passive : v / 64 ≡ 3 → p ≤ v / 4 % 16 → column_of a p v ≡ 32
  unfolding column_of
  column_no_passive e l = rw (ne_eqb (v / 64) 2 (λ f. omega arith), eq-eqb (v / 64) 3 e, le-ltb (v / 4 % 16) p l)

  column_none : (v / 64 ≡ 2 → ⊥) → (v / 64 ≡ 3 → ⊥) → column_of a p v ≡ 32
  unfolding column_of
  column_none e f = rw (ne_eqb (v / 64) 2 e, ne_eqb (v / 64) 3 f)

-- ---- a joint's byte whose fields are in range
and_true : (b : Bool) → (b && true) ≡ b
and_true true = refl
and_true false = refl

and_first : (a b : Bool) → (a && b) ≡ true → a ≡ true
and_first true b e = refl
and_first false b e = e

below_one : (n : ℕ) → ltb n 1 ≡ eqb n 0
below_one zero = refl
below_one (suc n) = le-ltb (suc n) 1 (omega arith) ∙ sym (ne_eqb (suc n) 0 (λ e. omega arith))

module _ (h : Head) (v : ℕ) where
  abbrev most : ℕ
  most = numbers_of h.routers h.actives h.passives (v / 64)

  -- the test by the kind's numbers
  pub byte_tested : v < 256 → (ltb (v / 4 % 16) most && (eqb (v / 64) 1 || eqb (v % 4) 0)) ≡ joint_byte_ok h v
  unfolding joint_byte_ok joint_ok numbers_of
  byte_tested small = by (kind_of v)
    where
      by : Kind v → (ltb (v / 4 % 16) most && (eqb (v / 64) 1 || eqb (v % 4) 0)) ≡ joint_byte_ok h v
      by (to_router e) = rw (eq-eqb (v / 64) 1 e, ne_eqb (v / 64) 0 (λ q. omega arith)) (and_true _)
      by (to_active e) =
          rw (eq-eqb (v / 64) 2 e, ne_eqb (v / 64) 0 (λ q. omega arith), ne_eqb (v / 64) 1 (λ q. omega arith))
      by (to_passive e) =
          rw (
            eq-eqb (v / 64) 3 e,
            ne_eqb (v / 64) 0 (λ q. omega arith),
            ne_eqb (v / 64) 1 (λ q. omega arith),
            ne_eqb (v / 64) 2 (λ q. omega arith),
          )
      by (to_none e f g) =
          rw (
            eq-eqb (v / 64) 0 (none e f g),
            ne_eqb (v / 64) 1 e,
            ne_eqb (v / 64) 2 f,
            ne_eqb (v / 64) 3 g,
            below_one (v / 4 % 16),
          )
        where
          none : (v / 64 ≡ 1 → ⊥) → (v / 64 ≡ 2 → ⊥) → (v / 64 ≡ 3 → ⊥) → v / 64 ≡ 0
          none e f g = omega arith

  module _ (fits : joint_byte_ok h v ≡ true) where
    pub active_fits : v / 64 ≡ 2 → v / 4 % 16 < h.actives
    unfolding joint_byte_ok joint_ok
    active_fits e =
        ltb-true (v / 4 % 16) h.actives (and_first _ _
        (rw (ne_eqb (v / 64) 0 (λ q. omega arith), ne_eqb (v / 64) 1 (λ q. omega arith), eq-eqb (v / 64) 2 e) at fits))

    pub passive_fits : v / 64 ≡ 3 → v / 4 % 16 < h.passives
    unfolding joint_byte_ok joint_ok
    passive_fits e =
        ltb-true (v / 4 % 16) h.passives (and_first _ _
        (rw (
          ne_eqb (v / 64) 0 (λ q. omega arith),
          ne_eqb (v / 64) 1 (λ q. omega arith),
          ne_eqb (v / 64) 2 (λ q. omega arith),
        ) at fits))

    pub named_active : v / 64 ≡ 2 → v / 4 % 16 ≡ column_of h.actives h.passives v
    named_active e = sym (column_active h.actives h.passives v e (active_fits e))

    pub named_passive : v / 64 ≡ 3 → h.actives + v / 4 % 16 ≡ column_of h.actives h.passives v
    named_passive e = sym (column_passive h.actives h.passives v e (passive_fits e))

-- ---- one more port
module _ (a p : ℕ) (js : List ℕ) (i : ℕ) (t : List ℕ) where
  pub step_none : get_or js i 0 < 128 → t ≡ found_step a p js i t
  unfolding found_step
  step_none l = rw (column_none a p (get_or js i 0) (λ e. omega arith) (λ e. omega arith))

  pub step_some : {d x : ℕ} → d ≡ column_of a p (get_or js i 0) → d < 32 → x ≡ mark_of (get_or t d 0) i
      → set t d x ≡ found_step a p js i t
  unfolding found_step
  step_some {d} e l f = rw (← e, lt-ltb d 32 l, f)

module _ (h : Head) (act : h.actives ≤ 16) (pas : h.passives ≤ 16) (d : ℕ) (inside : d < h.actives + h.passives)
    (v : ℕ) where
  abbrev col : ℕ
  col = column_of h.actives h.passives v

  same_by : (w k : ℕ) → wanted_of h.actives d ≡ w → col ≡ k → (v / 4 ≡ w → d ≡ k) → (d ≡ k → v / 4 ≡ w)
      → eqb (v / 4) (wanted_of h.actives d) ≡ eqb d col
  same_by w k e f g j = rw (e, f) (same_eqb (v / 4) w d k g j)

  wanted_column : eqb (v / 4) (wanted_of h.actives d) ≡ eqb d col
  wanted_column = by (kind_of v) (lt_or_ge (v / 4 % 16) h.actives) (lt_or_ge (v / 4 % 16) h.passives)
      (lt_or_ge d h.actives)
    where
      to : (k : ℕ) → col ≡ k
          → (d < h.actives → (v / 4 ≡ 32 + d → d ≡ k) × (d ≡ k → v / 4 ≡ 32 + d))
          → (h.actives ≤ d → (v / 4 ≡ 48 + (d - h.actives) → d ≡ k) × (d ≡ k → v / 4 ≡ 48 + (d - h.actives)))
          → (d < h.actives) ⊎ (h.actives ≤ d) → eqb (v / 4) (wanted_of h.actives d) ≡ eqb d col
      to k e f g (inl l) = same_by (32 + d) k (wanted_active h act pas d inside v l) e (f l).0 (f l).1
      to k e f g (inr l) =
          same_by (48 + (d - h.actives)) k (wanted_passive h act pas d inside v l) e (g l).0 (g l).1

      by : Kind v → (v / 4 % 16 < h.actives) ⊎ (h.actives ≤ v / 4 % 16)
          → (v / 4 % 16 < h.passives) ⊎ (h.passives ≤ v / 4 % 16)
          → (d < h.actives) ⊎ (h.actives ≤ d) → eqb (v / 4) (wanted_of h.actives d) ≡ eqb d col
      by (to_router e) x y z = to 32 (column_none h.actives h.passives v (λ f. omega arith) (λ f. omega arith))
          (λ m. (λ q. omega arith, λ q. omega arith)) (λ m. (λ q. omega arith, λ q. omega arith)) z
      by (to_active e) (inl l) y z = to (v / 4 % 16) (column_active h.actives h.passives v e l)
          (λ m. (λ q. omega arith, λ q. omega arith)) (λ m. (λ q. omega arith, λ q. omega arith)) z
      by (to_active e) (inr l) y z = to 32 (column_no_active h.actives h.passives v e l)
          (λ m. (λ q. omega arith, λ q. omega arith)) (λ m. (λ q. omega arith, λ q. omega arith)) z
      by (to_passive e) x (inl l) z = to (h.actives + v / 4 % 16) (column_passive h.actives h.passives v e l)
          (λ m. (λ q. omega arith, λ q. omega arith)) (λ m. (λ q. omega arith, λ q. omega arith)) z
      by (to_passive e) x (inr l) z = to 32 (column_no_passive h.actives h.passives v e l)
          (λ m. (λ q. omega arith, λ q. omega arith)) (λ m. (λ q. omega arith, λ q. omega arith)) z
      by (to_none e f g) x y z = to 32 (column_none h.actives h.passives v f g) (λ m.
          (λ q. absurd (f (omega arith)), λ q. omega arith)) (λ m. (λ q. absurd (g (omega arith)), λ q. omega arith)) z

  -- a byte leads to the interface of a column exactly if it names the column
  pub leads_column : leads_to (interface_at h d) (joint_of_byte v) ≡ eqb d col
  leads_column = leads h act pas d inside v ∙ wanted_column
