-- The fill bits are the last byte's low digits. Assumes nothing.
use mathlib.Core.Path.{◌≡◌, refl, sym, ap, ◌∙◌}
use mathlib.Core.Logic.{◌⊎◌, inl, inr}
use mathlib.Core.Bool.{Bool, true, false, ◌&&◌, true≢false}
use mathlib.Core.List.{List}
use Prim.Native.Nat.{ℕ, zero, suc, ◌+◌, ◌*◌, ◌-◌, ◌/◌, ◌%◌, ◌^◌, ◌≤◌, ◌<◌}
use native.Mathlib.Omega.{arith}
use lib.Dec.{eqb}
use lib.ListN.{get_or, length}
use lib.Pow.{pow_pos, add-lt-pow}
use borrow.Author.Tests.{eqb-true, eq-eqb, lt-ltb, le-ltb}
use Rattle.basis.specs.Choice.{same_test}
use Rattle.basis.specs.Bounded.{all_at, all_of, lt_or_ge}
use Rattle.sets.specs.Sets.{has, both, below}
use Rattle.sets.specs.Laws.{has_both, has_below, none_has, no_member}
use Rattle.fields.specs.Bits.{bit_at, field_of}
use Rattle.fields.specs.Laws.{bit_of}
use Rattle.plan.specs.Rules.{fill_ok}

-- ---- a set that holds nothing is 0
small_pow : (n : ℕ) → n < 2 ^ n
small_pow zero = pow_pos 0
small_pow (suc zero) = omega arith
small_pow (suc (suc n)) =
    let h = small_pow (suc n) in
    let one : 1 < 2 ^ suc n = omega (arith, h) in
    omega (arith, add-lt-pow {a = suc n} {b = 1} (suc n) h one)

nothing : (s : ℕ) → ((i : ℕ) → has s i ≡ false) → s ≡ 0
nothing s f = no_member s s (small_pow s) (λ i l. f i)

and_none : (b : Bool) → (b && false) ≡ false
and_none true = refl
and_none false = refl

and_same : (b : Bool) → (b && true) ≡ b
and_same true = refl
and_same false = refl

module _ (b : List ℕ) (from : ℕ) (some : 1 ≤ length b) (inside : from ≤ 8 * length b) (last : 8 * length b < from + 8)
  where
    abbrev n : ℕ
    n = 8 * length b - from

    abbrev x : ℕ
    x = get_or b (length b - 1) 0

    -- the i-th fill bit
    bit_at_lem : (i : ℕ) → i < n → field_of b (from + i) 1 ≡ x / 2 ^ (n - 1 - i) % 2
    unfolding field_of
    bit_at_lem i l =
        let k : 7 - (8 - n + i) ≡ n - 1 - i = omega arith in
        let bit : bit_at b (from + i + 0) ≡ x / 2 ^ (n - 1 - i) % 2 =
        bit_of b (length b - 1) (8 - n + i) (from + i + 0) (omega arith) (omega arith)
        ∙ ap (λ (y : ℕ). x / 2 ^ y % 2) k in
        rw bit (omega arith)

    -- it is a member of the set of the last byte's low digits
    member : (j : ℕ) → j < n → has (both x (below n)) j ≡ eqb (field_of b (from + (n - 1 - j)) 1) 1
    unfolding has
    member j l =
        let k : n - 1 - (n - 1 - j) ≡ j = omega arith in
        has_both x (below n) j ∙ rw (has_below n j, lt-ltb j n l) (and_same (has x j))
        ∙ ap (λ (y : ℕ). eqb y 1) (sym (bit_at_lem (n - 1 - j) (omega arith) ∙ ap (λ (y : ℕ). x / 2 ^ y % 2) k))

    zero_or_one : (i : ℕ) → i < n → eqb (field_of b (from + i) 1) 1 ≡ false → eqb (field_of b (from + i) 1) 0 ≡ true
    zero_or_one i l e = by (lt_or_ge (field_of b (from + i) 1) 1)
      where
        by : (field_of b (from + i) 1 < 1) ⊎ (1 ≤ field_of b (from + i) 1) → eqb (field_of b (from + i) 1) 0 ≡ true
        by (inl q) = eq-eqb (field_of b (from + i) 1) 0 (omega arith)
        by (inr q) = absurd (true≢false (sym (eq-eqb (field_of b (from + i) 1) 1 (omega (arith, small))) ∙ e))
          where
            small : field_of b (from + i) 1 < 2
            small = rw (bit_at_lem i l) (omega arith)

    to : eqb (both x (below n)) 0 ≡ true → fill_ok b from ≡ true
    unfolding fill_ok
    to e = all_of n (λ i. eqb (field_of b (from + i) 1) 0) (λ i l. zero_or_one i l (out i l))
      where
        out : (i : ℕ) → i < n → eqb (field_of b (from + i) 1) 1 ≡ false
        out i l =
            let k : n - 1 - (n - 1 - i) ≡ i = omega arith in
            ap (λ (y : ℕ). eqb (field_of b (from + y) 1) 1) (sym k)
            ∙ sym (member (n - 1 - i) (omega arith))
            ∙ ap (λ (y : ℕ). has y (n - 1 - i)) (eqb-true (both x (below n)) 0 e) ∙ none_has (n - 1 - i)

    back : fill_ok b from ≡ true → eqb (both x (below n)) 0 ≡ true
    unfolding fill_ok
    back e = eq-eqb _ 0 (nothing (both x (below n)) (λ j. by j (lt_or_ge j n)))
      where
        by : (j : ℕ) → (j < n) ⊎ (n ≤ j) → has (both x (below n)) j ≡ false
        by j (inl l) =
            let zero : field_of b (from + (n - 1 - j)) 1 ≡ 0 =
            (eqb-true (field_of b (from + (n - 1 - j)) 1) 0 (all_at n (λ i. eqb (field_of b (from + i) 1) 0) e (n - 1 -
            j) (omega arith))) in
            member j l ∙ rw zero
        by j (inr l) = has_both x (below n) j ∙ rw (has_below n j, le-ltb j n l) (and_none (has x j))

    pub fill_is : eqb (both x (below n)) 0 ≡ fill_ok b from
    fill_is = same_test (eqb (both x (below n)) 0) (fill_ok b from) to back
