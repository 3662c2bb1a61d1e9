-- What holds of stores after a change: of the place changed what was put there, of each other place what held before.
use mathlib.Core.Path.{◌≡◌, refl, sym, subst}
use mathlib.Core.Logic.{◌⊎◌, inl, inr, ◌≢◌}
use mathlib.Core.Bool.{Bool, true, false}
use Prim.Native.Nat.{ℕ}
use lib.Dec.{eqb}
use borrow.Author.Tests.{eqb-true, eq-eqb}
use Rattle.basis.specs.Choice.{test, not_both}
use Rattle.rules.specs.Store.{put, put_here, put_away}

module _ {X A : Type 0} (same : X → X → Bool) (one : (x : X) → same x x ≡ true)
    (same-one : (x y : X) → same x y ≡ true → x ≡ y) where
  -- what holds of the value put, and of each other place's, holds of the store
  pub put_cases : (H : X → A → Type 0) (m : X → A) (k : X) (a : A) → H k a → ((x : X) → x ≢ k → H x (m x)) → (x : X)
      → H x (put same m k a x)
  put_cases H m k a here away x = by (test (same x k))
    where
      by : (same x k ≡ true) ⊎ (same x k ≡ false) → H x (put same m k a x)
      by (inl t) = subst (λ (y : X). H y (put same m k a y)) (sym (same-one x k t))
          (subst (H k) (sym (put_here same one same-one m k a)) here)
      by (inr f) =
          let ne : x ≢ k = λ e. not_both (one k) (subst (λ (y : X). same y k ≡ false) e f) in
          subst (H x) (sym (put_away same one same-one m k a x ne)) (away x ne)

  -- a change at a place that exists leaves what lies outside
  pub put_outside : (E : X → Type 0) (m n : X → A) (k : X) (a : A) → E k → ((x : X) → (E x → ⊥) → m x ≡ n x) → (x : X)
      → (E x → ⊥) → put same m k a x ≡ n x
  put_outside E m n k a h out =
      put_cases (λ (x : X) (v : A). (E x → ⊥) → v ≡ n x) m k a (λ none. absurd (none h)) (λ x ne. out x)

-- the same for two stores changed at one place
pub put_both : {X A B : Type 0} (same : X → X → Bool) (one : (x : X) → same x x ≡ true)
    (same-one : (x y : X) → same x y ≡ true → x ≡ y)
    (H : X → A → B → Type 0) (m : X → A) (n : X → B) (k : X) (a : A) (b : B) → H k a b
    → ((x : X) → x ≢ k → H x (m x) (n x)) → (x : X) → H x (put same m k a x) (put same n k b x)
put_both {X} {A} {B} same one same-one H m n k a b here away =
    put_cases same one same-one (λ (x : X) (v : A). H x v (put same n k b x)) m k a
    (subst (H k a) (sym (put_here same one same-one n k b)) here)
    (λ x ne. subst (H x (m x)) (sym (put_away same one same-one n k b x ne)) (away x ne))

-- a number is itself
pub number_one : (x : ℕ) → eqb x x ≡ true
number_one x = eq-eqb x x refl

-- the same for a store by three numbers: an entry of a router, side and slot, a connection of two interfaces and a slot
pub entry_cases : {A : Type 0} (H : ℕ → ℕ → ℕ → A → Type 0) (m : ℕ → ℕ → ℕ → A) (r o t : ℕ) (x : A) → H r o t x
    → ((r' o' t' : ℕ) → H r' o' t' (m r' o' t'))
    → (r' o' t' : ℕ) → H r' o' t' (put eqb m r (put eqb (m r) o (put eqb (m r o) t x)) r' o' t')
entry_cases {A} H m r o t x here away =
    put_cases eqb number_one eqb-true (λ (r' : ℕ) (v : ℕ → ℕ → A). (o' t' : ℕ) → H r' o' t' (v o' t')) m r
    (put eqb (m r) o (put eqb (m r o) t x))
    (put_cases eqb number_one eqb-true (λ (o' : ℕ) (v : ℕ → A). (t' : ℕ) → H r o' t' (v t')) (m r) o
    (put eqb (m r o) t x)
    (put_cases eqb number_one eqb-true (H r o) (m r o) t x here (λ t' ne. away r o t')) (λ o' ne t'. away r o' t'))
    (λ r' ne o' t'. away r' o' t')
