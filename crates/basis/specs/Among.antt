-- What is among the elements of a list; lists put together in a loop.
use Rattle.std.specs.Prelude.{◌≡◌, ◌⊎◌, List, [], ◌∷◌, ◌++◌, ℕ, zero, suc, ◌<◌}
use Rattle.std.proofs.Common.{inl, inr, not-suc-le-zero, arith}
use Rattle.basis.specs.Bounded.{below_suc}

abbrev pub In : {X : Type 0} → X → List X → Type 0
In x [] = ⊥
In x (y ∷ ys) = (x ≡ y) ⊎ In x ys

pub in_left : {X : Type 0} (x : X) (xs ys : List X) → In x xs → In x (xs ++ ys)
in_left x [] ys i = absurd i
in_left x (y ∷ xs) ys (inl e) = inl e
in_left x (y ∷ xs) ys (inr i) = inr (in_left x xs ys i)

pub in_right : {X : Type 0} (x : X) (xs ys : List X) → In x ys → In x (xs ++ ys)
in_right x [] ys i = i
in_right x (y ∷ xs) ys i = inr (in_right x xs ys i)

pub in_either : {X : Type 0} (x : X) (xs ys : List X) → In x (xs ++ ys) → In x xs ⊎ In x ys
in_either x [] ys i = inr i
in_either x (y ∷ xs) ys (inl e) = inl (inl e)
in_either x (y ∷ xs) ys (inr i) = up (in_either x xs ys i)
  where
    up : In x xs ⊎ In x ys → In x (y ∷ xs) ⊎ In x ys
    up (inl j) = inl (inr j)
    up (inr j) = inr j

-- the lists f 0, .., f (n - 1), one behind the other
unfoldable pub gather : {X : Type 0} → (ℕ → List X) → ℕ → List X
gather f zero = []
gather f (suc n) = gather f n ++ f n

pub in_gather : {X : Type 0} (x : X) (f : ℕ → List X) (n i : ℕ) → i < n → In x (f i) → In x (gather f n)
unfolding gather
in_gather x f zero i h j = absurd (not-suc-le-zero h)
in_gather x f (suc n) i h j = by (λ l. in_gather x f n i l j) (below_suc h)
  where
    by : (i < n → In x (gather f n)) → (i < n) ⊎ (i ≡ n) → In x (gather f n ++ f n)
    by rec (inl l) = in_left x (gather f n) (f n) (rec l)
    by rec (inr e) = in_right x (gather f n) (f n) (rw e at j)

pub gather_in : {X : Type 0} (x : X) (f : ℕ → List X) (n : ℕ) → In x (gather f n) → (i : ℕ) × (i < n) × In x (f i)
unfolding gather
gather_in x f zero j = absurd j
gather_in x f (suc n) j = by (λ k. gather_in x f n k) (in_either x (gather f n) (f n) j)
  where
    up : (i : ℕ) × (i < n) × In x (f i) → (i : ℕ) × (i < suc n) × In x (f i)
    up (i, h, k) = (i, omega arith, k)

    by : (In x (gather f n) → (i : ℕ) × (i < n) × In x (f i)) → In x (gather f n) ⊎ In x (f n)
        → (i : ℕ) × (i < suc n) × In x (f i)
    by rec (inl k) = up (rec k)
    by rec (inr k) = (n, omega arith, k)
