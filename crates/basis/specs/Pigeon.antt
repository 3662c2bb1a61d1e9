-- n + 1 numbers below n: two are equal.
use Rattle.std.specs.Prelude.{◌≡◌, ◌⊎◌, ◌≢◌, Bool, true, false, ℕ, zero, suc, ◌<◌, eqb}
use Rattle.std.proofs.Common.{ap, inl, inr, not-suc-le-zero, arith, eqb-true}
use Rattle.std.proofs.lemmas.Bool.{eqb-false}
use Rattle.basis.specs.Bounded.{Found, find}
use Rattle.basis.specs.Choice.{test}

pub record Twice (f : ℕ → ℕ) (m : ℕ) : Type 0 where
  pub first : ℕ
  pub second : ℕ
  pub order : first < second
  pub bound : second < m
  pub same : f first ≡ f second

-- n is renamed to y
swap : ℕ → ℕ → Bool → ℕ → ℕ
swap n y true z = y
swap n y false z = z

rename : ℕ → ℕ → ℕ → ℕ
rename n y z = swap n y (eqb z n) z

rename_at : (n y z : ℕ) → ((z ≡ n) × (rename n y z ≡ y)) ⊎ ((z ≢ n) × (rename n y z ≡ z))
unfolding rename swap
rename_at n y z = by (test (eqb z n))
  where
    by : (eqb z n ≡ true) ⊎ (eqb z n ≡ false) → ((z ≡ n) × (rename n y z ≡ y)) ⊎ ((z ≢ n) × (rename n y z ≡ z))
    by (inl e) = inl (eqb-true z n e, ap (λ (b : Bool). swap n y b z) e)
    by (inr e) = inr (eqb-false z n e, ap (λ (b : Bool). swap n y b z) e)

pub pigeon : (n : ℕ) (f : ℕ → ℕ) → ((i : ℕ) → i < suc n → f i < n) → Twice f (suc n)
pigeon zero f h = absurd (not-suc-le-zero (h 0 (omega arith)))
pigeon (suc n) f h = by (λ g k. pigeon n g k) (find (suc n) (λ i. eqb (f i) (f (suc n))))
  where
    y : ℕ
    y = f (suc n)

    by : ((g : ℕ → ℕ) → ((i : ℕ) → i < suc n → g i < n) → Twice g (suc n))
        → Found (suc n) (λ i. eqb (f i) y) ⊎ ((i : ℕ) → i < suc n → eqb (f i) y ≡ false) → Twice f (suc (suc n))
    by rec (inl (i, l, e)) =
        record { first = i; second = suc n; order = l; bound = omega arith; same = eqb-true (f i) y e }
    by rec (inr none) = again (rec (λ i. rename n y (f i)) small)
      where
        other : (i : ℕ) → i < suc n → f i ≢ y
        other i l = eqb-false (f i) y (none i l)

        small : (i : ℕ) → i < suc n → rename n y (f i) < n
        small i l = at (rename_at n y (f i))
          where
            at : ((f i ≡ n) × (rename n y (f i) ≡ y)) ⊎ ((f i ≢ n) × (rename n y (f i) ≡ f i)) → rename n y (f i) < n
            at (inl (e, r)) = let hy = h (suc n) (omega arith) in let o = other i l in omega arith
            at (inr (e, r)) = let hy = h i (omega arith) in omega arith

        again : Twice (λ i. rename n y (f i)) (suc n) → Twice f (suc (suc n))
        again t = record { first = t.first; second = t.second; order = t.order; bound = omega arith; same = same_f }
          where
            same_f : f t.first ≡ f t.second
            same_f = pair (rename_at n y (f t.first)) (rename_at n y (f t.second))
              where
                o1 : f t.first ≢ y
                o1 = other t.first (omega arith)

                o2 : f t.second ≢ y
                o2 = other t.second (omega arith)

                pair : ((f t.first ≡ n) × (rename n y (f t.first) ≡ y))
                    ⊎ ((f t.first ≢ n) × (rename n y (f t.first) ≡ f t.first))
                    → ((f t.second ≡ n) × (rename n y (f t.second) ≡ y))
                    ⊎ ((f t.second ≢ n) × (rename n y (f t.second) ≡ f t.second))
                    → f t.first ≡ f t.second
                pair (inl a) (inl b) = omega arith
                pair (inl a) (inr b) = omega (arith, t.same, o1, o2)
                pair (inr a) (inl b) = omega (arith, t.same, o1, o2)
                pair (inr a) (inr b) = omega (arith, t.same)
