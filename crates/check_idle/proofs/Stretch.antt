-- Stretches of zero bytes, the words that they make, and rows one behind the other.
use mathlib.Core.Path.{◌≡◌, refl, ap, ◌∙◌}
use mathlib.Core.Logic.{◌⊎◌, inl, inr}
use mathlib.Core.Bool.{Bool, true, false}
use mathlib.Core.List.{List}
use Prim.Native.Nat.{ℕ, zero, suc, ◌+◌, ◌*◌, ◌≤◌, ◌<◌}
use native.Mathlib.Nat.{add-zero}
use native.Mathlib.Numerals.{add-one}
use native.Mathlib.Omega.{arith}
use lib.Dec.{eqb}
use lib.Bits.{bit_or, or_add_and, and_le_l, and_le_r}
use lib.ListN.{get_or}
use borrow.Author.Tests.{eq-eqb, eqb-true}
use Rattle.basis.specs.Choice.{pick, also, also_true, also_of, same_test}
use Rattle.basis.specs.Bounded.{all_below, all_of, lt_or_ge}
use Rattle.plan.specs.declared.Head.{Head}
use Rattle.plan.specs.Head.{destinations}
use Rattle.bytes_steps.specs.Counts.{output_count, outputs_from}
use Rattle.check_rule.specs.Forms.{zeros}
use Rattle.check_rule.proofs.Bytes.{zeros_byte}
use Rattle.bytes_layout.specs.Decode.{four_at}
use Rattle.check_idle.specs.Bytes.{word_at, IdleRow, IdleRows, IdleSide, IdleRouter, QuietBytes}

-- ---- the digits of two words together
pub or_none : (a b : ℕ) → bit_or a b ≡ 0 → (a ≡ 0) × (b ≡ 0)
or_none a b e =
    let s = or_add_and a b in let l = and_le_l a b in let r = and_le_r a b in
    (omega arith, omega arith)

pub or_of : (a b : ℕ) → a ≡ 0 → b ≡ 0 → bit_or a b ≡ 0
or_of a b p q = let s = or_add_and a b in omega arith

pub or_test : (a b : ℕ) → eqb (bit_or a b) 0 ≡ also (eqb a 0) (eqb b 0)
or_test a b =
    same_test (eqb (bit_or a b) 0) (also (eqb a 0) (eqb b 0))
    (λ e. let z = or_none a b (eqb-true (bit_or a b) 0 e) in also_of (eq-eqb a 0 z.0) (eq-eqb b 0 z.1))
    (λ e. let z = also_true e in eq-eqb (bit_or a b) 0 (or_of a b (eqb-true a 0 z.0) (eqb-true b 0 z.1)))

-- ---- a stretch, one byte after the other
pub zeros_none : (i : ℕ) (b : List ℕ) → true ≡ zeros i 0 b
unfolding zeros all_below
zeros_none i b = refl

pub zeros_next : (i k : ℕ) (b : List ℕ) {x y : Bool} → x ≡ zeros i k b → y ≡ also x (eqb (get_or b (i + k) 0) 0)
    → y ≡ zeros i (k + 1) b
unfolding zeros all_below
zeros_next i k b {x} {y} e f = rw (add-one, ← e) (f ∙ same_pick x (eqb (get_or b (i + k) 0) 0))
  where
    same_pick : (p q : Bool) → also p q ≡ pick p q false
    same_pick true q = refl
    same_pick false q = refl

pub zeros_all : (i k n : ℕ) (b : List ℕ) {x : Bool} → x ≡ zeros i k b → k ≡ n → x ≡ zeros i n b
zeros_all i k n b e q = e ∙ ap (λ m. zeros i m b) q

-- two stretches, the second from within the first or from its end on
pub zeros_two : (i n j m t : ℕ) (b : List ℕ) → zeros i n b ≡ true → zeros j m b ≡ true → i ≤ j → j ≤ i + n
    → i + t ≡ j + m → zeros i t b ≡ true
unfolding zeros
zeros_two i n j m t b e f h l q = all_of t _ (λ k g. at k g (lt_or_ge k n))
  where
    at : (k : ℕ) → k < t → (k < n) ⊎ (n ≤ k) → eqb (get_or b (i + k) 0) 0 ≡ true
    at k g (inl a) = eq-eqb (get_or b (i + k) 0) 0 (zeros_byte i n (i + k) b e (omega arith) (omega arith))
    at k g (inr a) = eq-eqb (get_or b (i + k) 0) 0 (zeros_byte j m (i + k) b f (omega arith) (omega arith))

-- ---- four zero bytes; and four bytes that make a byte's number
byte_none : (b : List ℕ) (i : ℕ) → get_or b i 0 ≡ 0 → eqb (get_or b i 0) 0 ≡ true
byte_none b i e = eq-eqb (get_or b i 0) 0 e

four_none : (i : ℕ) (b : List ℕ) → four_at i b ≡ 0 → zeros i 4 b ≡ true
unfolding four_at zeros
four_none i b e = all_of 4 _ at
  where
    at : (k : ℕ) → k < 4 → eqb (get_or b (i + k) 0) 0 ≡ true
    at zero l = rw (add-zero i) (byte_none b i (omega arith))
    at (suc zero) l = byte_none b (i + 1) (omega arith)
    at (suc (suc zero)) l = byte_none b (i + 2) (omega arith)
    at (suc (suc (suc zero))) l = byte_none b (i + 3) (omega arith)
    at (suc (suc (suc (suc k)))) l = absurd (omega arith)

four_byte : (i cap : ℕ) (b : List ℕ) → cap < 256 → four_at i b ≡ cap
    → (get_or b i 0 ≡ cap) × (zeros (i + 1) 3 b ≡ true)
unfolding four_at zeros
four_byte i cap b h e = (omega arith, all_of 3 _ at)
  where
    after : (k : ℕ) → get_or b (i + suc k) 0 ≡ 0 → eqb (get_or b (i + 1 + k) 0) 0 ≡ true
    after k z =
        let q : i + 1 + k ≡ i + suc k = omega arith in
        byte_none b (i + 1 + k) (ap (λ j. get_or b j 0) q ∙ z)

    at : (k : ℕ) → k < 3 → eqb (get_or b (i + 1 + k) 0) 0 ≡ true
    at zero l = after 0 (omega arith)
    at (suc zero) l = after 1 (omega arith)
    at (suc (suc zero)) l = after 2 (omega arith)
    at (suc (suc (suc k))) l = absurd (omega arith)

-- ---- a word of zero bytes, and a word that is a byte
word_none : (i : ℕ) (b : List ℕ) → word_at i b ≡ 0 → zeros i 8 b ≡ true
unfolding word_at
word_none i b e =
    zeros_two i 4 (i + 4) 4 8 b (four_none i b (omega arith)) (four_none (i + 4) b (omega arith)) (omega arith)
    (omega arith) (omega arith)

word_byte : (i cap : ℕ) (b : List ℕ) → cap < 256 → word_at i b ≡ cap
    → (get_or b i 0 ≡ cap) × (zeros (i + 1) 7 b ≡ true)
unfolding word_at
word_byte i cap b h e =
    let first = four_byte i cap b h (omega arith) in (
      first.0,
      zeros_two (i + 1) 3 (i + 4) 4 7 b first.1 (four_none (i + 4) b (omega arith)) (omega arith)
          (omega arith) (omega arith),
    )

-- ---- a row of 39 bytes by its five words, of which the last begins within the fourth
pub row_idle : (i cap : ℕ) (b : List ℕ) → cap < 256 → word_at i b ≡ cap
    → bit_or (bit_or (bit_or (word_at (i + 8) b) (word_at (i + 16) b)) (word_at (i + 24) b)) (word_at (i + 31) b) ≡ 0
    → IdleRow b i cap
row_idle i cap b h e z =
    let first = word_byte i cap b h e in
    let four = or_none _ (word_at (i + 31) b) z in
    let three = or_none _ (word_at (i + 24) b) four.0 in
    let two = or_none (word_at (i + 8) b) (word_at (i + 16) b) three.0 in
    let a = zeros_two (i + 1) 7 (i + 8) 8 15 b first.1 (word_none (i + 8) b two.0) (omega arith) (omega arith)
    (omega arith) in
    let d = zeros_two (i + 1) 15 (i + 16) 8 23 b a (word_none (i + 16) b two.1) (omega arith) (omega arith)
    (omega arith) in
    let f = zeros_two (i + 1) 23 (i + 24) 8 31 b d (word_none (i + 24) b three.1) (omega arith) (omega arith)
    (omega arith) in
    record {
      credit = first.0;
      rest =
          zeros_two (i + 1) 31 (i + 31) 8 38 b f (word_none (i + 31) b four.1) (omega arith) (omega arith)
          (omega arith);
    }

-- words that are others are together zero where those are
pub by_words : {a d f g a' d' f' g' : ℕ} → a ≡ a' → d ≡ d' → f ≡ f' → g ≡ g'
    → bit_or (bit_or (bit_or a d) f) g ≡ 0 → bit_or (bit_or (bit_or a' d') f') g' ≡ 0
by_words p q r s e = rw (← p, ← q, ← r, ← s) e

-- ---- sides and routers, one after the other
module _ (h : Head) (b : List ℕ) (i : ℕ) where
  abbrev pub Sides : ℕ → Type 0
  Sides n = (o : ℕ) → o < n → IdleSide h b (i + 195 * o)

  pub sides_none : Sides 0
  sides_none o l = absurd (omega arith)

  pub sides_more : (k : ℕ) → Sides k → IdleSide h b (i + 195 * k) → Sides (k + 1)
  sides_more k f r o l = by (lt_or_ge o k)
    where
      by : (o < k) ⊎ (k ≤ o) → IdleSide h b (i + 195 * o)
      by (inl a) = f o a
      by (inr a) = let q : o ≡ k = omega arith in rw q r

  pub sides_done : (k n : ℕ) → Sides k → n ≤ k → Sides n
  sides_done k n f q o l = f o (omega arith)

  abbrev pub Routers : ℕ → Type 0
  Routers n = (r : ℕ) → r < n → IdleRouter h b (i + 1092 * r)

  pub routers_none : Routers 0
  routers_none r l = absurd (omega arith)

  pub routers_more : (k : ℕ) → Routers k → IdleRouter h b (i + 1092 * k) → Routers (k + 1)
  routers_more k f x r l = by (lt_or_ge r k)
    where
      by : (r < k) ⊎ (k ≤ r) → IdleRouter h b (i + 1092 * r)
      by (inl a) = f r a
      by (inr a) = let q : r ≡ k = omega arith in rw q x

  pub routers_done : (k n : ℕ) → Routers k → n ≤ k → Routers n
  routers_done k n f q r l = f r (omega arith)

-- ---- all of them
pub quiet_of : (h : Head) (b : List ℕ) → zeros (outputs_from h) (7 * output_count h) b ≡ true
    → IdleRows b 2 h.actives h.aout.0 × IdleRows b (2 + 39 * h.actives) h.passives h.pout.0
    × IdleRows b (2 + 39 * (destinations h + 28 * h.routers)) h.actives h.ain.0
    × IdleRows b (2 + 39 * (destinations h + 28 * h.routers) + 39 * h.actives) h.passives h.pin.0
    → Routers h b (2 + 39 * destinations h) h.routers → QuietBytes h b
quiet_of h b z (ao, po, ai, pi) r =
    record {
      outputs = z;
      active_outs = ao;
      passive_outs = po;
      routers =
          λ k l. let q : 2 + 39 * (destinations h + 28 * k) ≡ 2 + 39 * destinations h + 1092 * k = omega arith in
          rw q (r k l);
      active_ins = ai;
      passive_ins =
          λ k l. let q : 2 + 39 * (destinations h + 28 * h.routers + h.actives) + 39 * k
          ≡ 2 + 39 * (destinations h + 28 * h.routers) + 39 * h.actives + 39 * k = omega arith in
          rw q (pi k l);
    }
