-- A choice between two values by a test, and what it tells.
use Rattle.std.specs.Prelude.{◌≡◌, refl, ◌⊎◌, Bool, true, false}
use Rattle.std.proofs.Common.{sym, ◌∙◌, inl, inr, true≢false}
use Rattle.std.proofs.lemmas.Bool.{false≢true}

abbrev pub pick : {A : Type 0} → Bool → A → A → A
pick true a b = a
pick false a b = b

-- a, and then b: b is looked at only where a holds
abbrev pub also : Bool → Bool → Bool
also true b = b
also false b = false

-- a test, with the equation that it gave
pub test : (b : Bool) → (b ≡ true) ⊎ (b ≡ false)
test true = inl refl
test false = inr refl

pub not_both : {b : Bool} → b ≡ true → b ≡ false → ⊥
not_both t f = true≢false (sym t ∙ f)

-- what is not true is false, and what is not false is true
pub refuted : (b : Bool) → (b ≡ true → ⊥) → b ≡ false
refuted true h = absurd (h refl)
refuted false h = refl

pub affirmed : (b : Bool) → (b ≡ false → ⊥) → b ≡ true
affirmed true h = refl
affirmed false h = absurd (h refl)

-- two tests that hold together are one value
pub same_test : (a b : Bool) → (a ≡ true → b ≡ true) → (b ≡ true → a ≡ true) → a ≡ b
same_test true b f g = sym (f refl)
same_test false true f g = g refl
same_test false false f g = refl

pub also_true : {a b : Bool} → also a b ≡ true → (a ≡ true) × (b ≡ true)
also_true {a = true} {b = b} e = (refl, e)
also_true {a = false} {b = b} e = absurd (false≢true e)

pub also_of : {a b : Bool} → a ≡ true → b ≡ true → also a b ≡ true
also_of p q = rw (p, q)

pub pick_same : {A : Type 0} (b : Bool) (x : A) → pick b x x ≡ x
pick_same true x = refl
pick_same false x = refl

-- a function of a choice is a choice
pub pick_out : {A B : Type 0} (f : A → B) (b : Bool) (x y : A) → pick b (f x) (f y) ≡ f (pick b x y)
pick_out f true x y = refl
pick_out f false x y = refl
