-- A test decides a claim: it passes exactly where the claim holds. How tests decide claims that are made of others.
use mathlib.Core.Path.{◌≡◌, refl}
use mathlib.Core.Logic.{◌⊎◌, inl, inr}
use mathlib.Core.Bool.{Bool, true, false, not, ◌||◌, true≢false, false≢true}
use mathlib.Core.List.{List, [], ◌∷◌}
use Prim.Native.Nat.{ℕ, ◌≤◌, ◌<◌}
use lib.Dec.{ltb, leb, eqb}
use borrow.Author.Tests.{ltb-true, lt-ltb, leb-true, le-leb, eqb-true, eq-eqb}
use Rattle.basis.specs.Choice.{also, also_true, also_of}
use Rattle.basis.specs.Bounded.{any_below, any_true, any_of, all_below, all_at, all_of, or_cases, or_right}
use Rattle.basis.specs.Among.{In}
use Rattle.valid.specs.Test.{all_in}

pub record Decides (t : Bool) (X : Type 0) : Type 0 where
  -- the test passes, so the claim holds
  pub holds : t ≡ true → X
  -- the claim holds, so the test passes
  pub passes : X → t ≡ true

-- the same test decides what says the same
abbrev pub like : {t : Bool} {X Y : Type 0} → Decides t X → (X → Y) → (Y → X) → Decides t Y
like d f g = record { holds = λ e. f (d.holds e); passes = λ y. d.passes (g y) }

-- ---- a test itself, and one that never or always passes
pub so : (t : Bool) → Decides t (t ≡ true)
so t = record { holds = λ e. e; passes = λ e. e }

pub not_so : (t : Bool) → Decides (not t) (t ≡ false)
not_so true = record { holds = λ e. absurd (false≢true e); passes = λ e. absurd (true≢false e) }
not_so false = record { holds = λ e. refl; passes = λ e. refl }

pub never : {X : Type 0} → (X → ⊥) → Decides false X
never h = record { holds = λ e. absurd (false≢true e); passes = λ x. absurd (h x) }

pub always : {X : Type 0} → X → Decides true X
always x = record { holds = λ e. x; passes = λ y. refl }

-- ---- numbers
pub less : (m n : ℕ) → Decides (ltb m n) (m < n)
less m n = record { holds = ltb-true m n; passes = lt-ltb m n }

pub most : (m n : ℕ) → Decides (leb m n) (m ≤ n)
most m n = record { holds = leb-true m n; passes = le-leb m n }

pub same : (m n : ℕ) → Decides (eqb m n) (m ≡ n)
same m n = record { holds = eqb-true m n; passes = eq-eqb m n }

-- ---- two tests
-- both; the second needs to decide only where the first claim holds
pub both : {s t : Bool} {X Y : Type 0} → Decides s X → (X → Decides t Y) → Decides (also s t) (X × Y)
both {s} {t} d e =
    record {
      holds = λ q. let p = also_true {a = s} {b = t} q in (d.holds p.0, (e (d.holds p.0)).holds p.1);
      passes = λ x. also_of (d.passes x.0) ((e x.0).passes x.1);
    }

pub either : {s t : Bool} {X Y : Type 0} → Decides s X → Decides t Y → Decides (s || t) (X ⊎ Y)
either {s} {t} {X} {Y} d e = record { holds = λ q. by (or_cases s t q); passes = of }
  where
    by : (s ≡ true) ⊎ (t ≡ true) → X ⊎ Y
    by (inl p) = inl (d.holds p)
    by (inr p) = inr (e.holds p)

    of : X ⊎ Y → (s || t) ≡ true
    of (inl x) = rw (d.passes x)
    of (inr y) = rw (e.passes y) (or_right s)

-- a claim that is made only where a test passes, or only where it fails
pub if_so : (s : Bool) {t : Bool} {Y : Type 0} → Decides t Y → Decides (not s || t) (s ≡ true → Y)
if_so true d = record { holds = λ q e. d.holds q; passes = λ f. d.passes (f refl) }
if_so false d = record { holds = λ q e. absurd (false≢true e); passes = λ f. refl }

pub if_not : (s : Bool) {t : Bool} {Y : Type 0} → Decides t Y → Decides (s || t) (s ≡ false → Y)
if_not true d = record { holds = λ q e. absurd (true≢false e); passes = λ f. refl }
if_not false d = record { holds = λ q e. d.holds q; passes = λ f. d.passes (f refl) }

-- ---- every number below a bound, some number below it, every element of a list
pub all_below_lem : (n : ℕ) (f : ℕ → Bool) (X : ℕ → Type 0) → ((i : ℕ) → i < n → Decides (f i) (X i))
    → Decides (all_below n f) ((i : ℕ) → i < n → X i)
all_below_lem n f X d =
    record {
      holds = λ e i h. (d i h).holds (all_at n f e i h);
      passes = λ g. all_of n f (λ i h. (d i h).passes (g i h));
    }

pub any_below_lem : (n : ℕ) (f : ℕ → Bool) (X : ℕ → Type 0) → ((i : ℕ) → i < n → Decides (f i) (X i))
    → Decides (any_below n f) ((i : ℕ) × (i < n) × X i)
any_below_lem n f X d =
    record {
      holds = λ e. by (any_true n f e);
      passes = λ x. any_of n f x.0 x.1 ((d x.0 x.1).passes x.2);
    }
  where
    by : (i : ℕ) × (i < n) × (f i ≡ true) → (i : ℕ) × (i < n) × X i
    by (i, h, e) = (i, h, (d i h).holds e)

pub all_in_lem : {X : Type 0} (f : X → Bool) (Y : X → Type 0) → ((x : X) → Decides (f x) (Y x)) → (xs : List X)
    → Decides (all_in f xs) ((x : X) → In x xs → Y x)
all_in_lem f Y d [] = always (λ x i. absurd i)
all_in_lem {X} f Y d (x ∷ xs) =
    like (both (d x) (λ y. all_in_lem f Y d xs)) (λ p y i. by p y i) (λ g. (g x (inl refl), λ y i. g y (inr i)))
  where
    by : Y x × ((y : X) → In y xs → Y y) → (y : X) → In y (x ∷ xs) → Y y
    by p y (inl e) = rw e p.0
    by p y (inr i) = p.1 y i
