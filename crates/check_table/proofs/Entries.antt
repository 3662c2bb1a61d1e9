-- A side's entries by the greatest value of each byte, and sides one after the other.
use mathlib.Core.Path.{◌≡◌, refl, sym, ap, ◌∙◌}
use mathlib.Core.Logic.{◌⊎◌, inl, inr}
use mathlib.Core.Bool.{Bool, true, false, not, ◌&&◌, ◌||◌}
use mathlib.Core.List.{List}
use Prim.Native.Nat.{ℕ, ◌+◌, ◌*◌, ◌/◌, ◌%◌, ◌≤◌, ◌<◌}
use native.Mathlib.Numerals.{add-one}
use native.Mathlib.Omega.{arith}
use lib.Dec.{eqb, ltb, leb}
use lib.ListN.{length, get_or, set, replicate, get_or-replicate}
use lib.Seq.{get_or-set_same, get_or-set_other}
use borrow.Author.Tests.{eq-eqb, eqb-true, lt-ltb, le-ltb, ltb-true, le-leb, leb-true}
use Rattle.basis.specs.Choice.{pick, also, also_true, also_of, same_test, test}
use Rattle.basis.specs.Bounded.{all_below, any_below, Found, all_at, all_of, all_none, all_more, any_true}
use Rattle.basis.specs.Bounded.{any_of, lt_or_ge}
use Rattle.check_rule.specs.Forms.{zeros}
use Rattle.check_rule.proofs.Bytes.{zeros_byte}
use Rattle.check_idle.specs.Bytes.{entry_fits, entry_free, side_fits, sides_fit, limit_at, Limits, bytes_within}
use Rattle.check_idle.specs.Bytes.{byte_open}
use Rattle.check_idle.specs.Bytes.{sides_zero}

-- ---- the limits, as they are written
pub limit_even : (slots t : ℕ) → limit_at slots (2 * t) ≡ pick (ltb t slots) 4 0
unfolding limit_at
limit_even slots t =
    let r : 2 * t % 2 ≡ 0 = omega arith in let q : 2 * t / 2 ≡ t = omega arith in
    rw (r, q)

pub limit_odd : (slots t : ℕ) → limit_at slots (2 * t + 1) ≡ 0
unfolding limit_at
limit_odd slots t = let r : (2 * t + 1) % 2 ≡ 1 = omega arith in rw r

-- those of the first t slots, and else zero
abbrev pub Filled : ℕ → ℕ → List ℕ → Type 0
Filled slots t l = (k : ℕ) → k < 64 → get_or l k 0 ≡ pick (ltb k (2 * t)) (limit_at slots k) 0

pub filled_none : (slots : ℕ) → Filled slots 0 (replicate 64 0)
filled_none slots k h = get_or-replicate 64 k 0 0 h ∙ sym (rw (le-ltb k (2 * 0) (omega arith)))

module _ (slots t v : ℕ) (l : List ℕ) (h : t < 32) (n : length l ≡ 64) (f : Filled slots t l)
    (e : v ≡ pick (ltb t slots) 4 0) where
  filled_at : get_or (set l (2 * t) v) (2 * t) 0 ≡ pick (ltb (2 * t) (2 * (t + 1))) (limit_at slots (2 * t)) 0
  filled_at =
      get_or-set_same l (2 * t) v 0 (omega arith) ∙ e
      ∙ sym (rw (lt-ltb (2 * t) (2 * (t + 1)) (omega arith)) (limit_even slots t))

  pub filled_more : Filled slots (t + 1) (set l (2 * t) v)
  filled_more k g = by (lt_or_ge k (2 * t)) (lt_or_ge (2 * t) k) (lt_or_ge k (2 * (t + 1)))
    where
      other : (k < 2 * t) ⊎ (2 * t < k) → get_or (set l (2 * t) v) k 0 ≡ pick (ltb k (2 * t)) (limit_at slots k) 0
      other (inl a) = get_or-set_other l (2 * t) k v 0 (omega arith) ∙ f k g
      other (inr a) = get_or-set_other l (2 * t) k v 0 (omega arith) ∙ f k g

      by : (k < 2 * t) ⊎ (2 * t ≤ k) → (2 * t < k) ⊎ (k ≤ 2 * t) → (k < 2 * (t + 1)) ⊎ (2 * (t + 1) ≤ k)
          → get_or (set l (2 * t) v) k 0 ≡ pick (ltb k (2 * (t + 1))) (limit_at slots k) 0
      by (inl a) b d =
          other (inl a) ∙ rw (lt-ltb k (2 * t) a, lt-ltb k (2 * (t + 1)) (omega arith))
      by (inr a) (inr b) d = let q : k ≡ 2 * t = omega arith in rw q filled_at
      by (inr a) (inl b) (inl d) =
          let q : k ≡ 2 * t + 1 = omega arith in
          other (inr b) ∙ rw (le-ltb k (2 * t) a, lt-ltb k (2 * (t + 1)) d) (sym (rw q (limit_odd slots t)))
      by (inr a) (inl b) (inr d) = other (inr b) ∙ rw (le-ltb k (2 * t) a, le-ltb k (2 * (t + 1)) d)

pub filled_done : (slots t : ℕ) (l : List ℕ) → Filled slots t l → 32 ≤ t → Limits slots l
filled_done slots t l f h k g = f k g ∙ rw (lt-ltb k (2 * t) (omega arith))

-- ---- bytes within their limits, one after the other
module _ (i : ℕ) (l b : List ℕ) where
  pub within_none : true ≡ bytes_within i 0 l b
  unfolding bytes_within all_below
  within_none = refl

  pub within_next : (k : ℕ) {x y z : Bool} → x ≡ bytes_within i k l b → z ≡ leb (get_or b (i + k) 0) (get_or l k 0)
      → y ≡ also x z → y ≡ bytes_within i (k + 1) l b
  unfolding bytes_within all_below
  within_next k {x} {y} {z} e f g = rw (add-one, ← e, ← f) (g ∙ same_pick x z)
    where
      same_pick : (p q : Bool) → also p q ≡ pick p q false
      same_pick true q = refl
      same_pick false q = refl

  pub open_none : true ≡ not (byte_open i 0 l b)
  unfolding byte_open any_below
  open_none = refl

  pub open_next : (k : ℕ) {x y z : Bool} → x ≡ not (byte_open i k l b)
      → z ≡ not (also (ltb (get_or b (i + k) 0) (get_or l k 0)) (eqb (get_or b (i + k) 0) 0)) → y ≡ also x z
      → y ≡ not (byte_open i (k + 1) l b)
  unfolding byte_open any_below
  open_next k {x} {y} {z} e f g =
      rw (add-one, g, e, f)
      (turned (any_below k (λ j. also (ltb (get_or b (i + j) 0) (get_or l j 0)) (eqb (get_or b (i + j) 0) 0)))
      (also (ltb (get_or b (i + k) 0) (get_or l k 0)) (eqb (get_or b (i + k) 0) 0)))
    where
      turned : (p q : Bool) → also (not p) (not q) ≡ not (q || p)
      turned true true = refl
      turned true false = refl
      turned false true = refl
      turned false false = refl

  pub both_done : (k : ℕ) {x y : Bool} → x ≡ bytes_within i k l b → y ≡ not (byte_open i k l b) → k ≡ 64
      → (x && not y) ≡ also (bytes_within i 64 l b) (byte_open i 64 l b)
  both_done k {x} {y} e f q = rw (← q, e, f) (both (bytes_within i k l b) (byte_open i k l b))
    where
      both : (p q : Bool) → (p && not (not q)) ≡ also p q
      both true true = refl
      both true false = refl
      both false q = refl

-- ---- a side by its bytes
half : (k : ℕ) → (k ≡ 2 * (k / 2)) ⊎ (k ≡ 2 * (k / 2) + 1)
half k = by (lt_or_ge (k % 2) 1)
  where
    by : (k % 2 < 1) ⊎ (1 ≤ k % 2) → (k ≡ 2 * (k / 2)) ⊎ (k ≡ 2 * (k / 2) + 1)
    by (inl h) = inl (omega arith)
    by (inr h) = inr (omega arith)

module _ (i slots : ℕ) (l b : List ℕ) (m : Limits slots l) where
  even : (t : ℕ) → t < 32 → get_or l (2 * t) 0 ≡ pick (ltb t slots) 4 0
  even t h = m (2 * t) (omega arith) ∙ limit_even slots t

  odd : (t : ℕ) → t < 32 → get_or l (2 * t + 1) 0 ≡ 0
  odd t h = m (2 * t + 1) (omega arith) ∙ limit_odd slots t

  at_odd : (t : ℕ) → get_or b (i + (2 * t + 1)) 0 ≡ get_or b (i + 2 * t + 1) 0
  at_odd t = let q : i + (2 * t + 1) ≡ i + 2 * t + 1 = omega arith in ap (λ j. get_or b j 0) q

  fits_both : (t : ℕ) → entry_fits i slots b t ≡ true
      → (leb (get_or b (i + 2 * t) 0) (pick (ltb t slots) 4 0) ≡ true) × (eqb (get_or b (i + 2 * t + 1) 0) 0 ≡ true)
  fits_both t e =
      also_true {a = leb (get_or b (i + 2 * t) 0) (pick (ltb t slots) 4 0)} {b = eqb (get_or b (i + 2 * t + 1) 0) 0} e

  free_both : (t : ℕ) → entry_free i slots b t ≡ true
      → (ltb t slots ≡ true) × (eqb (get_or b (i + 2 * t) 0) 0 ≡ true)
  free_both t e = also_true {a = ltb t slots} {b = eqb (get_or b (i + 2 * t) 0) 0} e

  open_both : (k : ℕ) → also (ltb (get_or b (i + k) 0) (get_or l k 0)) (eqb (get_or b (i + k) 0) 0) ≡ true
      → (ltb (get_or b (i + k) 0) (get_or l k 0) ≡ true) × (eqb (get_or b (i + k) 0) 0 ≡ true)
  open_both k e = also_true {a = ltb (get_or b (i + k) 0) (get_or l k 0)} {b = eqb (get_or b (i + k) 0) 0} e

  entries_of : bytes_within i 64 l b ≡ true → all_below 32 (entry_fits i slots b) ≡ true
  unfolding bytes_within
  entries_of e = all_of 32 _ at
    where
      at : (t : ℕ) → t < 32 → entry_fits i slots b t ≡ true
      at t h =
          let first = rw (even t h) at (all_at 64 _ e (2 * t) (omega arith)) in
          let second = rw (odd t h) at (all_at 64 _ e (2 * t + 1) (omega arith)) in
          let z = leb-true (get_or b (i + (2 * t + 1)) 0) 0 second in
          let s = at_odd t in
          also_of first (eq-eqb (get_or b (i + 2 * t + 1) 0) 0 (omega arith))

  within_of : all_below 32 (entry_fits i slots b) ≡ true → bytes_within i 64 l b ≡ true
  unfolding bytes_within
  within_of e = all_of 64 _ (λ k h. at k h (half k))
    where
      at_even : (t : ℕ) → t < 32 → leb (get_or b (i + 2 * t) 0) (get_or l (2 * t) 0) ≡ true
      at_even t h = rw (even t h) (fits_both t (all_at 32 _ e t h)).0

      at_odd_one : (t : ℕ) → t < 32 → leb (get_or b (i + (2 * t + 1)) 0) (get_or l (2 * t + 1) 0) ≡ true
      at_odd_one t h =
          let z = eqb-true (get_or b (i + 2 * t + 1) 0) 0 (fits_both t (all_at 32 _ e t h)).1 in
          rw (at_odd t, z) (le-leb 0 (get_or l (2 * t + 1) 0) (omega arith))

      at : (k : ℕ) → k < 64 → (k ≡ 2 * (k / 2)) ⊎ (k ≡ 2 * (k / 2) + 1)
          → leb (get_or b (i + k) 0) (get_or l k 0) ≡ true
      at k h (inl q) =
          ap (λ j. leb (get_or b (i + j) 0) (get_or l j 0)) q ∙ at_even (k / 2) (omega arith)
      at k h (inr q) =
          ap (λ j. leb (get_or b (i + j) 0) (get_or l j 0)) q ∙ at_odd_one (k / 2) (omega arith)

  -- a number below the limit of a slot: the slot is the plan's
  used : (x t : ℕ) → ltb x (pick (ltb t slots) 4 0) ≡ true → ltb t slots ≡ true
  used x t e = by (test (ltb t slots))
    where
      by : (ltb t slots ≡ true) ⊎ (ltb t slots ≡ false) → ltb t slots ≡ true
      by (inl p) = p
      by (inr p) = let z = ltb-true x 0 (rw p at e) in absurd (omega arith)

  free_of : byte_open i 64 l b ≡ true → any_below 32 (entry_free i slots b) ≡ true
  unfolding byte_open
  free_of e = from (any_true 64 _ e)
    where
      at : (k : ℕ) → k < 64 → ltb (get_or b (i + k) 0) (get_or l k 0) ≡ true → eqb (get_or b (i + k) 0) 0 ≡ true
          → (k ≡ 2 * (k / 2)) ⊎ (k ≡ 2 * (k / 2) + 1) → any_below 32 (entry_free i slots b) ≡ true
      at k h p z (inl q) =
          let below : ltb (get_or b (i + k) 0) (pick (ltb (k / 2) slots) 4 0) ≡ true =
          ap (λ j. ltb (get_or b (i + k) 0) j) (sym (ap (λ j. get_or l j 0) q ∙ even (k / 2) (omega arith))) ∙ p in
          any_of 32 (entry_free i slots b) (k / 2) (omega arith)
          (also_of (used (get_or b (i + k) 0) (k / 2) below) (ap (λ j. eqb (get_or b (i + j) 0) 0) (sym q) ∙ z))
      at k h p z (inr q) =
          let none : get_or l k 0 ≡ 0 = ap (λ j. get_or l j 0) q ∙ odd (k / 2) (omega arith) in
          let less = ltb-true (get_or b (i + k) 0) (get_or l k 0) p in
          absurd (omega arith)

      from : Found 64 (λ k. also (ltb (get_or b (i + k) 0) (get_or l k 0)) (eqb (get_or b (i + k) 0) 0))
          → any_below 32 (entry_free i slots b) ≡ true
      from (k, h, p) = at k h (open_both k p).0 (open_both k p).1 (half k)

  open_of : any_below 32 (entry_free i slots b) ≡ true → byte_open i 64 l b ≡ true
  unfolding byte_open
  open_of e = from (any_true 32 _ e)
    where
      from : Found 32 (entry_free i slots b)
          → any_below 64 (λ k. also (ltb (get_or b (i + k) 0) (get_or l k 0)) (eqb (get_or b (i + k) 0) 0)) ≡ true
      from (t, h, p) =
          let u = (free_both t p).0 in
          let z = eqb-true (get_or b (i + 2 * t) 0) 0 (free_both t p).1 in
          any_of 64 (λ k. also (ltb (get_or b (i + k) 0) (get_or l k 0)) (eqb (get_or b (i + k) 0) 0)) (2 * t)
          (omega arith)
          (rw (even t h, u, z))

  pub side_by : {r : Bool} → r ≡ also (bytes_within i 64 l b) (byte_open i 64 l b) → r ≡ side_fits i slots b
  unfolding side_fits
  side_by {r} e =
      e
      ∙ rw (
        same_test (bytes_within i 64 l b) (all_below 32 (entry_fits i slots b)) entries_of within_of,
        same_test (byte_open i 64 l b) (any_below 32 (entry_free i slots b)) free_of open_of,
      )

-- a side of zero bytes
pub side_unused : (i slots : ℕ) (b : List ℕ) → 0 < slots → zeros i 64 b ≡ true → side_fits i slots b ≡ true
unfolding side_fits
side_unused i slots b h e =
    also_of (all_of 32 _ fits)
    (any_of 32 _ 0 (omega arith) (also_of (lt-ltb 0 slots h) (byte_none (2 * 0) (omega arith))))
  where
    byte_none : (k : ℕ) → k < 64 → eqb (get_or b (i + k) 0) 0 ≡ true
    byte_none k g = eq-eqb (get_or b (i + k) 0) 0 (zeros_byte i 64 (i + k) b e (omega arith) (omega arith))

    fits : (t : ℕ) → t < 32 → entry_fits i slots b t ≡ true
    fits t g =
        let first = zeros_byte i 64 (i + 2 * t) b e (omega arith) (omega arith) in
        let second = zeros_byte i 64 (i + 2 * t + 1) b e (omega arith) (omega arith) in
        also_of {a = leb (get_or b (i + 2 * t) 0) (pick (ltb t slots) 4 0)}
        (rw first (le-leb 0 (pick (ltb t slots) 4 0) (omega arith)))
        (eq-eqb (get_or b (i + 2 * t + 1) 0) 0 second)

-- ---- sides, one after the other
module _ (i : ℕ) (b : List ℕ) where
  pub unused_none : sides_zero i 0 b ≡ true
  unfolding sides_zero
  unused_none = all_none _

  pub unused_more : (k : ℕ) {x : Bool} → sides_zero i k b ≡ true → x ≡ zeros (i + 64 * k) 64 b → x ≡ true
      → sides_zero i (k + 1) b ≡ true
  unfolding sides_zero
  unused_more k e f g = all_more (λ j. zeros (i + 64 * j) 64 b) k e f g

  module _ (slots : ℕ) where
    pub unused_fit : (n : ℕ) → 0 < slots → sides_zero i n b ≡ true → sides_fit i slots n b ≡ true
    unfolding sides_zero sides_fit
    unused_fit n h e =
        all_of n _ (λ k l. side_unused (i + 64 * k) slots b h (all_at n (λ j. zeros (i + 64 * j) 64 b) e k l))

    pub sides_all : (k n : ℕ) → sides_fit i slots k b ≡ true → k ≡ n → true ≡ sides_fit i slots n b
    sides_all k n e q = sym (ap (λ j. sides_fit i slots j b) (sym q) ∙ e)

pub unused_all : (i : ℕ) (b : List ℕ) (k n : ℕ) → sides_zero i k b ≡ true → k ≡ n → sides_zero i n b ≡ true
unused_all i b k n e q = ap (λ j. sides_zero i j b) (sym q) ∙ e
