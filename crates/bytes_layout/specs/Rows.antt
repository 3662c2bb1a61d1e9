-- Rows of bytes one behind the other, and a row that stands at an offset in a list of bytes: for every width, count
-- and offset.
use Rattle.std.specs.Prelude.{◌≡◌, refl, List, [], ◌++◌, ℕ, zero, suc, ◌+◌, ◌*◌, ◌-◌, ◌<◌, ◌≤◌, length, get_or, take}
use Rattle.std.specs.Prelude.{drop}
use Rattle.std.proofs.Common.{sym, ap, ap₂, ◌∙◌, append_assoc, append-nil, add-zero, zero-add, mul-zero, mul-suc, arith}
use Rattle.std.proofs.Common.{take-append-drop, length-append, get_or-append-add, take_at, drop_at}
use Rattle.std.proofs.Math.ListN.{get_or-append}

-- the n rows g i, g (i + 1), ..
unfoldable pub rows : ℕ → ℕ → (ℕ → List ℕ) → List ℕ
rows i zero g = []
rows i (suc n) g = g i ++ rows (suc i) n g

-- n rows of w bytes are w * n bytes
pub rows_length : (w i n : ℕ) (g : ℕ → List ℕ) → ((j : ℕ) → length (g j) ≡ w) → length (rows i n g) ≡ w * n
unfolding rows
rows_length w i zero g l = sym (mul-zero w)
rows_length w i (suc n) g l = rw (length-append, l i, rows_length w (suc i) n g l, mul-suc w n) (omega arith)

-- rows that agree make the same bytes
pub rows_same : (i n : ℕ) (g h : ℕ → List ℕ) → ((j : ℕ) → i ≤ j → j < i + n → g j ≡ h j) → rows i n g ≡ rows i n h
unfolding rows
rows_same i zero g h e = refl
rows_same i (suc n) g h e =
    ap₂ ◌++◌ (e i (omega arith) (omega arith)) (rows_same (suc i) n g h (λ j a b. e j (omega arith) (omega arith)))

-- the rows before one row, that row, and the rows after it
pub span_split : (i a b : ℕ) (g : ℕ → List ℕ)
    → rows i (a + suc b) g ≡ rows i a g ++ (g (i + a) ++ rows (suc (i + a)) b g)
unfolding rows
span_split i zero b g = rw (zero-add (suc b), add-zero i)
span_split i (suc a) b g =
    let p : suc a + suc b ≡ suc (a + suc b) = omega arith in
    let q : i + suc a ≡ suc i + a = omega arith in
    rw (p, q)
    (ap (λ l. g i ++ l) (span_split (suc i) a b g)
    ∙ sym (append_assoc (g i) (rows (suc i) a g) (g (suc i + a) ++ rows (suc (suc i + a)) b g)))

-- the same of all n rows
pub span_at : (n q : ℕ) (g : ℕ → List ℕ) → q < n → rows 0 n g ≡ rows 0 q g ++ (g q ++ rows (suc q) (n - suc q) g)
span_at n q g h =
    let p : n ≡ q + suc (n - suc q) = omega arith in
    ap (λ k. rows 0 k g) p ∙ rw (span_split 0 q (n - suc q) g, zero-add q)

-- ---- a row stands in b at an offset
pub record RowStands (at : ℕ) (row b : List ℕ) : Type 0 where
  pub before : List ℕ
  pub after : List ℕ
  pub same : b ≡ before ++ (row ++ after)
  pub offset : at ≡ length before

-- a list stands at the start of itself
pub stands_whole : (b : List ℕ) → RowStands 0 b b
stands_whole b = record { before = []; after = []; same = sym (append-nil b); offset = refl }

-- the first part of what stands at an offset stands there
pub stands_left : (at : ℕ) (x y b : List ℕ) → RowStands at (x ++ y) b → RowStands at x b
stands_left at x y b s =
    record {
      before = s.before;
      after = y ++ s.after;
      same = s.same ∙ ap (λ l. s.before ++ l) (append_assoc x y s.after);
      offset = s.offset;
    }

-- and the second part behind the first
pub stands_right : (at to : ℕ) (x y b : List ℕ) → to ≡ at + length x → RowStands at (x ++ y) b → RowStands to y b
stands_right at to x y b e s =
    record {
      before = s.before ++ x;
      after = s.after;
      same =
          s.same ∙ ap (λ l. s.before ++ l) (append_assoc x y s.after)
          ∙ sym (append_assoc s.before x (y ++ s.after));
      offset = let o = s.offset in omega (arith, length-append s.before x);
    }

-- row q of n rows of w bytes each stands w * q bytes behind the first
pub stands_row : (w n at : ℕ) (g : ℕ → List ℕ) (b : List ℕ) → ((j : ℕ) → length (g j) ≡ w)
    → RowStands at (rows 0 n g) b → (q : ℕ) → q < n → RowStands (at + w * q) (g q) b
stands_row w n at g b l s q h =
    let t : RowStands at (rows 0 q g ++ (g q ++ rows (suc q) (n - suc q) g)) b =
    record {
      before = s.before;
      after = s.after;
      same = s.same ∙ ap (λ x. s.before ++ (x ++ s.after)) (span_at n q g h);
      offset = s.offset;
    } in
    stands_left (at + w * q) (g q) (rows (suc q) (n - suc q) g) b
    (stands_right at (at + w * q) (rows 0 q g) (g q ++ rows (suc q) (n - suc q) g) b (rw (rows_length w 0 q g l)) t)

-- the bytes of a row are read at its offset
pub stands_get : (at : ℕ) (row b : List ℕ) → RowStands at row b → (k : ℕ) → k < length row
    → get_or b (at + k) 0 ≡ get_or row k 0
stands_get at row b s k h =
    rw (s.same, s.offset) (get_or-append-add s.before (row ++ s.after) k 0 ∙ get_or-append row s.after 0 k h)

-- and its first byte, right there
pub stands_byte : (at : ℕ) (row b : List ℕ) → RowStands at row b → 0 < length row → get_or b at 0 ≡ get_or row 0 0
stands_byte at row b s h = ap (λ k. get_or b k 0) (sym (add-zero at)) ∙ stands_get at row b s 0 h

-- ---- the first n bytes, and the bytes past them
unfoldable pub front : ℕ → List ℕ → List ℕ
front n b = take n b

unfoldable pub past : ℕ → List ℕ → List ℕ
past n b = drop n b

-- they are the list
pub front_past : (n : ℕ) (b : List ℕ) → b ≡ front n b ++ past n b
unfolding front past
front_past n b = sym (take-append-drop n b)

-- and of two lists, the first of length n, they are the two
pub front_append : (n : ℕ) (x y : List ℕ) → length x ≡ n → front n (x ++ y) ≡ x
unfolding front
front_append n x y e = take_at x y n e

pub past_append : (n : ℕ) (x y : List ℕ) → length x ≡ n → past n (x ++ y) ≡ y
unfolding past
past_append n x y e = drop_at x y n e
