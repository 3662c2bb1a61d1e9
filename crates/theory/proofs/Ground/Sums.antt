-- Sums over the numbers below n: of equal terms, of terms that differ at one number, of nothing; one and two of the
-- terms.
use mathlib.Core.Path.{◌≡◌, refl, ap, ap₂, sym, ◌∙◌}
use mathlib.Core.Logic.{◌⊎◌, inl, inr, ◌≢◌}
use Prim.Native.Nat.{ℕ, zero, suc, ◌+◌, ◌<◌, ◌≤◌}
use native.Mathlib.Nat.{not-suc-le-zero}
use native.Mathlib.Omega.{arith}
use Rattle.basis.specs.Bounded.{below_suc}
use Rattle.rules.specs.Valid.{sum}

-- Sums of equal terms are equal.
pub sum_same : (n : ℕ) (f g : ℕ → ℕ) → ((i : ℕ) → i < n → f i ≡ g i) → sum n f ≡ sum n g
unfolding sum
sum_same zero f g h = refl
sum_same (suc n) f g h = ap₂ (λ (a b : ℕ). a + b) (sum_same n f g (λ i l. h i (omega arith))) (h n (omega arith))

-- Sums whose terms differ at one number alone differ by that number's terms.
pub sum_but : (n k : ℕ) (f g : ℕ → ℕ) → k < n → ((i : ℕ) → i < n → i ≢ k → f i ≡ g i) → sum n f + g k ≡ sum n g + f k
unfolding sum
sum_but zero k f g h e = absurd (not-suc-le-zero h)
sum_but (suc n) k f g h e = by (λ l. sum_but n k f g l (λ i m ne. e i (omega arith) ne)) (below_suc h)
  where
    by : (k < n → sum n f + g k ≡ sum n g + f k) → (k < n) ⊎ (k ≡ n) → sum n f + f n + g k ≡ sum n g + g n + f k
    by rec (inl l) = let a = rec l in let b = e n (omega arith) (λ q. omega arith) in omega arith
    by rec (inr q) =
        let a = sum_same n f g (λ i m. e i (omega arith) (λ p. omega arith)) in
        let b = ap f q in
        let c = ap g q in
        omega arith

-- A sum of noughts is nought.
pub sum_nought : (n : ℕ) (f : ℕ → ℕ) → ((i : ℕ) → i < n → f i ≡ 0) → sum n f ≡ 0
unfolding sum
sum_nought zero f h = refl
sum_nought (suc n) f h = let a = sum_nought n f (λ i l. h i (omega arith)) in let b = h n (omega arith) in omega arith

-- A term is at most the sum, and so are two.
pub sum_term : (n : ℕ) (f : ℕ → ℕ) (i : ℕ) → i < n → f i ≤ sum n f
unfolding sum
sum_term zero f i h = absurd (omega arith)
sum_term (suc n) f i h = by (λ l. sum_term n f i l) (below_suc h)
  where
    by : (i < n → f i ≤ sum n f) → (i < n) ⊎ (i ≡ n) → f i ≤ sum n f + f n
    by rec (inl l) = omega (arith, rec l)
    by rec (inr e) = rw e (omega arith)

pub sum_two : (n : ℕ) (f : ℕ → ℕ) (i j : ℕ) → i < n → j < n → i ≢ j → f i + f j ≤ sum n f
unfolding sum
sum_two zero f i j h k ne = absurd (omega arith)
sum_two (suc n) f i j h k ne = by (λ l m. sum_two n f i j l m ne) (below_suc h) (below_suc k)
  where
    by : (i < n → j < n → f i + f j ≤ sum n f) → (i < n) ⊎ (i ≡ n) → (j < n) ⊎ (j ≡ n) → f i + f j ≤ sum n f + f n
    by rec (inl l) (inl m) = omega (arith, rec l m)
    by rec (inl l) (inr e) = rw e (omega (arith, sum_term n f i l))
    by rec (inr e) (inl m) = rw e (omega (arith, sum_term n f j m))
    by rec (inr e) (inr g) = absurd (ne (e ∙ sym g))
