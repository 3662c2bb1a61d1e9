-- The code's tests of a queue's first four bytes, and of what a queue is by its number, are the definitions'.
use mathlib.Core.Path.{◌≡◌, ◌∙◌, refl, sym, ap}
use mathlib.Core.Logic.{◌⊎◌, inl, inr}
use mathlib.Core.Bool.{Bool, true, false, ◌||◌}
use mathlib.Core.List.{List}
use Prim.Native.Nat.{ℕ, zero, suc, ◌+◌, ◌*◌, ◌-◌, ◌/◌, ◌%◌, ◌≤◌, ◌<◌}
use native.Mathlib.Omega.{arith}
use lib.Dec.{ltb, leb, eqb}
use lib.ListN.{get_or}
use borrow.Author.Tests.{ltb-true, ltb-false, lt-ltb, le-ltb, leb-true, eq-eqb, ne_eqb}
use Rattle.basis.specs.Choice.{pick, also, also_true, test}
use Rattle.basis.specs.Bounded.{lt_or_ge}
use Rattle.packets.specs.declared.Phase.{Phase}
use Rattle.packets.specs.declared.Phase.TheVariants.{Execute}
use Rattle.plan.specs.declared.Head.{Head}
use Rattle.plan.specs.declared.Joint.{Joint}
use Rattle.plan.specs.declared.Joint.TheVariants.{Nothing, Router, Active, Passive}
use Rattle.plan.specs.Head.{destinations}
use Rattle.plan.specs.Plan.{Plan}
use Rattle.plan.specs.Tables.{table_plan, joint_of_byte}
use Rattle.plan_queues.specs.Queue.{Queue, in_router, sender_at, queue_at}
use Rattle.plan_queues.specs.Role.{is_unit}
use Rattle.rules.specs.Capacity.{capacity}
use Rattle.rules.specs.Calls.{is_phase}
use Rattle.rules.specs.Valid.{fed, is_joined}
use Rattle.bytes_layout.specs.Codes.{flag_of}
use Rattle.check_rule.specs.Parts.{frame_test}
use Rattle.check_frames.specs.Frame.{of_head}
use Rattle.check_frames.specs.Frame.{flag_fits, mark_fits, flags_of, frame_of, joined_by, cross_side, fed_in_router}
use Rattle.check_frames.specs.Frame.{fed_of}
use Rattle.check_frames.specs.Frame.{unit_of, place_in, router_in}

also_assoc : (a b c : Bool) → also (also a b) c ≡ also a (also b c)
also_assoc true b c = refl
also_assoc false b c = refl

pub or_false : (a : Bool) → (a || false) ≡ a
or_false true = refl
or_false false = refl

-- the head of a queue is its first packet
pub first : (done : Bool) (k : ℕ) → k ≡ 0 → done ≡ of_head done k
first done zero e = refl
first done (suc k) e = absurd (omega arith)

pub not_first : (done : Bool) (k : ℕ) → (k ≡ 0 → ⊥) → false ≡ of_head done k
not_first done zero e = absurd (e refl)
not_first done (suc k) e = refl

small : (f : ℕ) → leb f 1 ≡ true → (f ≡ 0) ⊎ (f ≡ 1)
small zero e = inl refl
small (suc zero) e = inr refl
small (suc (suc f)) e = let l = leb-true (suc (suc f)) 1 e in absurd (omega arith)

module _ (pl : Plan) (phase : Phase) (q : Queue) (c n w : ℕ) where
  abbrev Framed : ℕ → ℕ → Type 0
  Framed f m =
      frame_of (capacity pl.head q) (fed pl q) (is_unit q) (is_phase phase Execute) c f m n w
      ≡ also (leb f 1) (also (leb m 1) (frame_test pl phase q c (flag_of f) (flag_of m) n w))

  framed_00 : Framed 0 0
  unfolding frame_of flags_of flag_fits mark_fits frame_test
  framed_00 = simp also_assoc

  framed_01 : Framed 0 1
  unfolding frame_of flags_of flag_fits mark_fits frame_test
  framed_01 = simp also_assoc

  framed_10 : Framed 1 0
  unfolding frame_of flags_of flag_fits mark_fits frame_test
  framed_10 = simp also_assoc

  framed_11 : Framed 1 1
  unfolding frame_of flags_of flag_fits mark_fits frame_test
  framed_11 = simp also_assoc

  -- the four bytes' test is the frame's, of a flag and a mark
  pub frame_law : (f m : ℕ) → Framed f m
  unfolding frame_of flags_of
  frame_law f m = by (test (leb f 1)) (test (leb m 1))
    where
      both : (f ≡ 0) ⊎ (f ≡ 1) → (m ≡ 0) ⊎ (m ≡ 1) → Framed f m
      both (inl x) (inl y) = rw (x, y) framed_00
      both (inl x) (inr y) = rw (x, y) framed_01
      both (inr x) (inl y) = rw (x, y) framed_10
      both (inr x) (inr y) = rw (x, y) framed_11

      by : (leb f 1 ≡ true) ⊎ (leb f 1 ≡ false) → (leb m 1 ≡ true) ⊎ (leb m 1 ≡ false) → Framed f m
      by (inl x) (inl y) = both (small f x) (small m y)
      by (inl x) (inr y) = rw (x, y)
      by (inr x) y = rw x

-- a queue whose frame fits has no more packets than its capacity
pub frame_few : (cap : ℕ) (wired unit executing : Bool) (c f m n w : ℕ)
    → frame_of cap wired unit executing c f m n w ≡ true → n ≤ cap
unfolding frame_of flags_of
frame_few cap wired unit executing c f m n w e =
    let x = (also_true {a = flags_of cap wired unit executing f m n}
    {b = pick wired (eqb (c + n + w + f) cap) (eqb c cap)} e).0 in
    let y = (also_true {a = leb f 1} {b = _} x).1 in
    let z = (also_true {a = leb m 1} {b = _} y).1 in
    leb-true n cap (also_true {a = leb n cap} {b = _} z).0

-- ---- the code's ways out
pub flag_none : (wired executing : Bool) (f : ℕ) → f ≡ 0 → true ≡ flag_fits wired executing f
unfolding flag_fits
flag_none true true f e = rw e
flag_none true false f e = refl
flag_none false true f e = rw e
flag_none false false f e = rw e

pub flag_fed : (wired executing : Bool) (f : ℕ) → (f ≡ 0 → ⊥) → executing ≡ false → wired ≡ flag_fits wired executing f
unfolding flag_fits
flag_fed true executing f e x = rw x
flag_fed false executing f e x = rw (x, ne_eqb f 0 e)

module _ (cap : ℕ) (wired unit executing : Bool) (c f m n w : ℕ) (t : Bool)
    (e : t ≡ flags_of cap wired unit executing f m n) where
  pub frame_none : t ≡ false → false ≡ frame_of cap wired unit executing c f m n w
  unfolding frame_of
  frame_none x = rw (← e, x)

  pub frame_fed : t ≡ true → wired ≡ true → eqb (c + n + w + f) cap ≡ frame_of cap wired unit executing c f m n w
  unfolding frame_of
  frame_fed x y = rw (← e, x, y)

  pub frame_unfed : t ≡ true → wired ≡ false → eqb c cap ≡ frame_of cap wired unit executing c f m n w
  unfolding frame_of
  frame_unfed x y = rw (← e, x, y)

-- ---- a port by its joint
joined_by_lem : (v : ℕ) → joined_by v ≡ is_joined (joint_of_byte v)
unfolding joined_by joint_of_byte
joined_by_lem v = by (test (eqb (v / 64) 1)) (test (eqb (v / 64) 2)) (test (eqb (v / 64) 3))
  where
    by : (eqb (v / 64) 1 ≡ true) ⊎ (eqb (v / 64) 1 ≡ false) → (eqb (v / 64) 2 ≡ true) ⊎ (eqb (v / 64) 2 ≡ false)
        → (eqb (v / 64) 3 ≡ true) ⊎ (eqb (v / 64) 3 ≡ false) → joined_by v ≡ is_joined (joint_of_byte v)
    by (inl x) y z = rw x
    by (inr x) (inl y) z = rw (x, y)
    by (inr x) (inr y) (inl z) = rw (x, y, z)
    by (inr x) (inr y) (inr z) = rw (x, y, z)

pub joined_said : (v : ℕ) {j : Joint} {b : Bool} → j ≡ joint_of_byte v → (b ≡ true → j ≡ Nothing → ⊥)
    → (b ≡ false → j ≡ Nothing) → b ≡ joined_by v
joined_said v {j} {b} e not is = by j b not is ∙ ap is_joined e ∙ sym (joined_by_lem v)
  where
    by : (j : Joint) (b : Bool) → (b ≡ true → j ≡ Nothing → ⊥) → (b ≡ false → j ≡ Nothing) → b ≡ is_joined j
    by Nothing true n y = absurd (n refl refl)
    by Nothing false n y = refl
    by (Router m t) true n y = refl
    by (Router m t) false n y = sym (ap is_joined (y refl))
    by (Active m) true n y = refl
    by (Active m) false n y = sym (ap is_joined (y refl))
    by (Passive m) true n y = refl
    by (Passive m) false n y = sym (ap is_joined (y refl))

-- ---- a queue by its number
module _ (h : Head) (routes : List (List ℕ)) (joints : List ℕ) where
  abbrev net : Plan
  net = table_plan h routes joints

  joined_joint : (r i : ℕ) → i < 4 → joined_by (get_or joints (4 * r + i) 0) ≡ is_joined (net.joint r i)
  unfolding table_plan
  joined_joint r i l = rw (lt-ltb i 4 l) (joined_by_lem (get_or joints (4 * r + i) 0))

  sender_fed : (r o j : ℕ) → j < 5
      → pick (ltb j 2) true (joined_by (get_or joints (4 * r + cross_side (j - 2) o) 0)) ≡ fed net (sender_at r o j)
  sender_fed r o zero l = refl
  sender_fed r o (suc zero) l = refl
  sender_fed r o (suc (suc j)) l =
      let e : suc (suc j) - 2 ≡ j = omega arith in
      rw (le-ltb (suc (suc j)) 2 (omega arith), e) (joined_joint r (cross_side j o) (side (lt_or_ge j o)))
    where
      side : (j < o) ⊎ (o ≤ j) → cross_side j o < 4
      side (inl x) = rw (lt-ltb j o x) (omega arith)
      side (inr x) = rw (le-ltb j o x) (omega arith)

  router_fed : (r k : ℕ) → k < 28 → fed_in_router joints r k ≡ fed net (in_router r k)
  unfolding fed_in_router
  router_fed r k l = by (test (ltb k 4)) (test (ltb k 8))
    where
      by : (ltb k 4 ≡ true) ⊎ (ltb k 4 ≡ false) → (ltb k 8 ≡ true) ⊎ (ltb k 8 ≡ false)
          → fed_in_router joints r k ≡ fed net (in_router r k)
      by (inl x) y = rw x (joined_joint r k (ltb-true k 4 x))
      by (inr x) (inl y) = rw (x, y)
      by (inr x) (inr y) = rw (x, y) (sender_fed r ((k - 8) / 5) ((k - 8) % 5) (omega arith))

  router_unit : (r k : ℕ) → k < 28 → eqb (k / 4) 1 ≡ is_unit (in_router r k)
  router_unit r k l = by (test (ltb k 4)) (test (ltb k 8))
    where
      sender : (o j : ℕ) → is_unit (sender_at r o j) ≡ false
      sender o zero = refl
      sender o (suc zero) = refl
      sender o (suc (suc j)) = refl

      by : (ltb k 4 ≡ true) ⊎ (ltb k 4 ≡ false) → (ltb k 8 ≡ true) ⊎ (ltb k 8 ≡ false)
          → eqb (k / 4) 1 ≡ is_unit (in_router r k)
      by (inl x) y = let t = ltb-true k 4 x in rw (x, ne_eqb (k / 4) 1 (λ z. omega arith))
      by (inr x) (inl y) =
          let s = ltb-false k 4 x in let t = ltb-true k 8 y in
          let e : k / 4 ≡ 1 = omega arith in rw (x, y, eq-eqb (k / 4) 1 e)
      by (inr x) (inr y) =
          let t = ltb-false k 8 y in
          rw (x, y, ne_eqb (k / 4) 1 (λ z. omega arith)) (sym (sender ((k - 8) / 5) ((k - 8) % 5)))

  module _ (n : ℕ) where
    pub fed_law : fed_of h joints n ≡ fed net (queue_at net n)
    unfolding fed_of queue_at table_plan
    fed_law = by (lt_or_ge n h.actives) (lt_or_ge n (destinations h)) (lt_or_ge n (destinations h + 28 * h.routers))
        (test (ltb n (destinations h + 28 * h.routers + h.actives)))
      where
        by : (n < h.actives) ⊎ (h.actives ≤ n) → (n < destinations h) ⊎ (destinations h ≤ n)
            → (n < destinations h + 28 * h.routers) ⊎ (destinations h + 28 * h.routers ≤ n)
            → (ltb n (destinations h + 28 * h.routers + h.actives) ≡ true)
            ⊎ (ltb n (destinations h + 28 * h.routers + h.actives) ≡ false) → fed_of h joints n ≡ fed net
            (queue_at net n)
        by (inl a) d b x =
            let l : n < destinations h = omega arith in rw (lt-ltb n h.actives a, lt-ltb n (destinations h) l)
        by (inr a) (inl d) b x = rw (le-ltb n h.actives a, lt-ltb n (destinations h) d)
        by (inr a) (inr d) (inl b) x =
            rw (le-ltb n h.actives a, le-ltb n (destinations h) d, lt-ltb n (destinations h + 28 * h.routers) b)
            (router_fed (router_in h n) (place_in h n) (omega arith))
        by (inr a) (inr d) (inr b) (inl x) =
            rw (le-ltb n h.actives a, le-ltb n (destinations h) d, le-ltb n (destinations h + 28 * h.routers) b, x)
        by (inr a) (inr d) (inr b) (inr x) =
            rw (le-ltb n h.actives a, le-ltb n (destinations h) d, le-ltb n (destinations h + 28 * h.routers) b, x)

    pub unit_law : unit_of h n ≡ is_unit (queue_at net n)
    unfolding unit_of queue_at table_plan
    unit_law = by (lt_or_ge n h.actives) (lt_or_ge n (destinations h))
        (lt_or_ge n (destinations h + 28 * h.routers))
        (test (ltb n (destinations h + 28 * h.routers + h.actives)))
      where
        by : (n < h.actives) ⊎ (h.actives ≤ n) → (n < destinations h) ⊎ (destinations h ≤ n)
            → (n < destinations h + 28 * h.routers) ⊎ (destinations h + 28 * h.routers ≤ n)
            → (ltb n (destinations h + 28 * h.routers + h.actives) ≡ true)
            ⊎ (ltb n (destinations h + 28 * h.routers + h.actives) ≡ false) → unit_of h n ≡ is_unit (queue_at net n)
        by (inl a) d b x =
            let l : n < destinations h = omega arith in rw (lt-ltb n h.actives a, lt-ltb n (destinations h) l)
        by (inr a) (inl d) b x = rw (le-ltb n h.actives a, lt-ltb n (destinations h) d)
        by (inr a) (inr d) (inl b) x =
            rw (le-ltb n h.actives a, le-ltb n (destinations h) d, lt-ltb n (destinations h + 28 * h.routers) b)
            (router_unit (router_in h n) (place_in h n) (omega arith))
        by (inr a) (inr d) (inr b) (inl x) =
            rw (le-ltb n h.actives a, le-ltb n (destinations h) d, le-ltb n (destinations h + 28 * h.routers) b, x)
        by (inr a) (inr d) (inr b) (inr x) =
            rw (le-ltb n h.actives a, le-ltb n (destinations h) d, le-ltb n (destinations h + 28 * h.routers) b, x)
