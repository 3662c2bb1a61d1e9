-- Tests of the numbers below a bound, and what they tell: some number passes, every number passes.
use Rattle.std.specs.Prelude.{◌≡◌, refl, ◌⊎◌, Bool, true, false, ◌||◌, ℕ, zero, suc, ◌+◌, ◌≤◌, ◌<◌, ltb}
use Rattle.std.proofs.Common.{sym, ap₂, ◌∙◌, inl, inr, true≢false, not-suc-le-zero, eq-or-lt_of_le, le_of_suc-le-suc}
use Rattle.std.proofs.Common.{add-one, arith, ltb-true, ltb-false}
use Rattle.std.proofs.lemmas.Bool.{false≢true}
use Rattle.basis.specs.Choice.{pick, test}

-- two numbers are in order, one way or the other
pub lt_or_ge : (a b : ℕ) → (a < b) ⊎ (b ≤ a)
lt_or_ge a b = go (ltb a b) refl
  where
    go : (t : Bool) → ltb a b ≡ t → (a < b) ⊎ (b ≤ a)
    go true e = inl (ltb-true a b e)
    go false e = inr (ltb-false a b e)

-- below n + 1: below n, or n
pub below_suc : {i n : ℕ} → i < suc n → (i < n) ⊎ (i ≡ n)
below_suc {i} {n} h = turn (eq-or-lt_of_le (le_of_suc-le-suc h))
  where
    turn : (i ≡ n) ⊎ (i < n) → (i < n) ⊎ (i ≡ n)
    turn (inl e) = inr e
    turn (inr l) = inl l

-- ---- some number below n passes
unfoldable pub any_below : ℕ → (ℕ → Bool) → Bool
any_below zero f = false
any_below (suc n) f = f n || any_below n f

abbrev pub Found : ℕ → (ℕ → Bool) → Type 0
Found n f = (i : ℕ) × (i < n) × (f i ≡ true)

-- the first number below n that passes is found, or none does
pub find : (n : ℕ) (f : ℕ → Bool) → Found n f ⊎ ((i : ℕ) → i < n → f i ≡ false)
find zero f = inr (λ i h. absurd (not-suc-le-zero h))
find (suc n) f = at (test (f n)) (find n f)
  where
    at : (f n ≡ true) ⊎ (f n ≡ false) → Found n f ⊎ ((i : ℕ) → i < n → f i ≡ false)
        → Found (suc n) f ⊎ ((i : ℕ) → i < suc n → f i ≡ false)
    at (inl e) r = inl (n, omega arith, e)
    at (inr e) (inl (i, h, t)) = inl (i, omega arith, t)
    at (inr e) (inr none) = inr (λ i h. last i (below_suc h))
      where
        last : (i : ℕ) → (i < n) ⊎ (i ≡ n) → f i ≡ false
        last i (inl l) = none i l
        last i (inr q) = rw q e

pub or_cases : (a b : Bool) → (a || b) ≡ true → (a ≡ true) ⊎ (b ≡ true)
or_cases true b t = inl refl
or_cases false b t = inr t

pub or_right : (a : Bool) → (a || true) ≡ true
or_right true = refl
or_right false = refl

pub any_true : (n : ℕ) (f : ℕ → Bool) → any_below n f ≡ true → Found n f
unfolding any_below
any_true zero f t = absurd (false≢true t)
any_true (suc n) f t = go (λ u. any_true n f u) (or_cases (f n) (any_below n f) t)
  where
    up : Found n f → Found (suc n) f
    up (i, h, e) = (i, omega arith, e)

    go : (any_below n f ≡ true → Found n f) → (f n ≡ true) ⊎ (any_below n f ≡ true) → Found (suc n) f
    go rec (inl e) = (n, omega arith, e)
    go rec (inr e) = up (rec e)

pub any_of : (n : ℕ) (f : ℕ → Bool) (i : ℕ) → i < n → f i ≡ true → any_below n f ≡ true
unfolding any_below
any_of zero f i h e = absurd (not-suc-le-zero h)
any_of (suc n) f i h e = go (λ l. any_of n f i l e) (below_suc h)
  where
    go : (i < n → any_below n f ≡ true) → (i < n) ⊎ (i ≡ n) → (f n || any_below n f) ≡ true
    go rec (inl l) = rw (rec l) (or_right (f n))
    go rec (inr q) = rw (rw q at e)

pub any_same : (n : ℕ) (f g : ℕ → Bool) → ((i : ℕ) → i < n → f i ≡ g i) → any_below n f ≡ any_below n g
unfolding any_below
any_same zero f g h = refl
any_same (suc n) f g h = ap₂ (λ (a b : Bool). a || b) (h n (omega arith)) (any_same n f g (λ i l. h i (omega arith)))

-- ---- every number below n passes
unfoldable pub all_below : ℕ → (ℕ → Bool) → Bool
all_below zero f = true
all_below (suc n) f = pick (all_below n f) (f n) false

pub all_at : (n : ℕ) (f : ℕ → Bool) → all_below n f ≡ true → (i : ℕ) → i < n → f i ≡ true
unfolding all_below
all_at zero f e i h = absurd (not-suc-le-zero h)
all_at (suc n) f e i h = by (λ g l. all_at n f g i l) (test (all_below n f)) (below_suc h)
  where
    by : (all_below n f ≡ true → i < n → f i ≡ true) → (all_below n f ≡ true) ⊎ (all_below n f ≡ false)
        → (i < n) ⊎ (i ≡ n) → f i ≡ true
    by rec (inl t) (inl l) = rec t l
    by rec (inl t) (inr q) = rw q (rw t at e)
    by rec (inr t) c = absurd (false≢true (rw t at e))

pub all_of : (n : ℕ) (f : ℕ → Bool) → ((i : ℕ) → i < n → f i ≡ true) → all_below n f ≡ true
unfolding all_below
all_of zero f h = refl
all_of (suc n) f h = rw (all_of n f (λ i l. h i (omega arith))) (h n (omega arith))

-- a loop that tests and leaves at the first that fails
pub all_none : (f : ℕ → Bool) → all_below 0 f ≡ true
unfolding all_below
all_none f = refl

pub all_more : (f : ℕ → Bool) (i : ℕ) {b : Bool} → all_below i f ≡ true → b ≡ f i → b ≡ true → all_below (i + 1) f ≡
    true
unfolding all_below
all_more f i e g h = rw (add-one, e, ← g, h)

pub all_fail : (f : ℕ → Bool) (n i : ℕ) {b : Bool} → i < n → b ≡ f i → b ≡ false → all_below n f ≡ false
all_fail f n i {b} k g h = by (test (all_below n f))
  where
    by : (all_below n f ≡ true) ⊎ (all_below n f ≡ false) → all_below n f ≡ false
    by (inl t) = absurd (true≢false (sym (all_at n f t i k) ∙ sym g ∙ h))
    by (inr t) = t

pub all_done : (f : ℕ → Bool) {i n : ℕ} → all_below i f ≡ true → i ≡ n → all_below n f ≡ true
all_done f e q = rw (← q) e

pub all_same : (n : ℕ) (f g : ℕ → Bool) → ((i : ℕ) → i < n → f i ≡ g i) → all_below n f ≡ all_below n g
unfolding all_below
all_same zero f g h = refl
all_same (suc n) f g h =
    ap₂ (λ (a b : Bool). pick a b false) (all_same n f g (λ i l. h i (omega arith))) (h n (omega arith))
