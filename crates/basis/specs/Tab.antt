-- A function as the list of its first n values.
use Rattle.std.specs.Prelude.{◌≡◌, List, [], ◌∷◌, ℕ, zero, suc, ◌+◌, ◌<◌, get_or}
use Rattle.std.proofs.Common.{not-suc-le-zero, add-zero, add-suc, suc-add, zero-add, arith}

module _ {A : Type 0} where
  -- f i, f (i + 1), .. : n of them. The tail is bound by a `let`, so that a cell is computed when it is asked for
  abbrev pub tab_from : ℕ → ℕ → (ℕ → A) → List A
  tab_from i zero f = []
  tab_from i (suc n) f = let rest = tab_from (suc i) n f in f i ∷ rest

  abbrev pub tab : ℕ → (ℕ → A) → List A
  tab n f = tab_from 0 n f

  get_d_tab_from : (i n : ℕ) (f : ℕ → A) (k : ℕ) (d : A) → k < n → get_or (tab_from i n f) k d ≡ f (i + k)
  get_d_tab_from i zero f k d h = absurd (not-suc-le-zero h)
  get_d_tab_from i (suc n) f zero d h = rw add-zero
  get_d_tab_from i (suc n) f (suc k) d h = rw (add-suc i k, ← suc-add i k)
      (get_d_tab_from (suc i) n f k d (omega arith))

  pub get_d_tab : (n : ℕ) (f : ℕ → A) (k : ℕ) (d : A) → k < n → get_or (tab n f) k d ≡ f k
  get_d_tab n f k d h = rw zero-add at (get_d_tab_from 0 n f k d h)
