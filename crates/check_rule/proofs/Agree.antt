-- Bytes that agree with a row: from an offset on they are the row's, byte by byte. Laws for rows that are made of
-- others.
use mathlib.Core.Path.{◌≡◌, sym, ap, ◌∙◌}
use mathlib.Core.Logic.{◌⊎◌, inl, inr}
use mathlib.Core.List.{List, [], ◌++◌}
use Prim.Native.Nat.{ℕ, zero, suc, ◌+◌, ◌*◌, ◌-◌, ◌≤◌, ◌<◌}
use native.Mathlib.Nat.{add-zero, zero-add, mul-zero, mul-suc, not-suc-le-zero}
use native.Mathlib.Omega.{arith}
use lib.ListN.{length, get_or, length-append, get_or-append}
use lib.Seq.{length-take-le, get_or-take, get_or-append-add, ext_get_or}
use Rattle.basis.specs.Bounded.{lt_or_ge}
use Rattle.bytes_layout.specs.Rows.{rows, front}

abbrev pub Agrees : ℕ → List ℕ → List ℕ → Type 0
Agrees at row b = (k : ℕ) → k < length row → get_or b (at + k) 0 ≡ get_or row k 0

-- at the same offset
pub agrees_at : (at to : ℕ) (row b : List ℕ) → to ≡ at → Agrees at row b → Agrees to row b
agrees_at at to row b e f k h = ap (λ i. get_or b (i + k) 0) e ∙ f k h

-- ---- no bytes
pub agrees_none : (at : ℕ) (b : List ℕ) → Agrees at [] b
agrees_none at b k h = absurd (not-suc-le-zero h)

-- ---- two rows, one behind the other
pub agrees_append : (at to : ℕ) (x y b : List ℕ) → to ≡ at + length x → Agrees at x b → Agrees to y b
    → Agrees at (x ++ y) b
agrees_append at to x y b e f g k h = by (lt_or_ge k (length x))
  where
    by : (k < length x) ⊎ (length x ≤ k) → get_or b (at + k) 0 ≡ get_or (x ++ y) k 0
    by (inl l) = f k l ∙ sym (get_or-append x y 0 k l)
    by (inr l) =
        let p : at + k ≡ to + (k - length x) = omega arith in
        let q : length x + (k - length x) ≡ k = omega arith in
        let n = length-append x y in
        ap (λ i. get_or b i 0) p ∙ g (k - length x) (omega arith) ∙ sym (get_or-append-add x y (k - length x) 0)
        ∙ ap (λ i. get_or (x ++ y) i 0) q

-- ---- n rows of w bytes
pub agrees_rows : (w i n at : ℕ) (g : ℕ → List ℕ) (b : List ℕ) → ((j : ℕ) → length (g j) ≡ w)
    → ((j : ℕ) → j < n → Agrees (at + w * j) (g (i + j)) b) → Agrees at (rows i n g) b
unfolding rows
agrees_rows w i zero at g b l f = agrees_none at b
agrees_rows w i (suc n) at g b l f =
    let first : Agrees at (g i) b =
    agrees_at (at + w * 0) at (g i) b (rw (mul-zero w) (omega arith))
    (rw (add-zero i) at (f 0 (omega arith))) in
    agrees_append at (at + w) (g i) (rows (suc i) n g) b (rw (l i)) first
    (agrees_rows w (suc i) n (at + w) g b l (λ j h.
    let p : i + suc j ≡ suc i + j = omega arith in
    agrees_at (at + w * suc j) (at + w + w * j) (g (suc i + j)) b (rw (mul-suc w j) (omega arith))
    (rw p at (f (suc j) (omega arith)))))

-- the same, from the first row on
pub agrees_all : (w n at : ℕ) (g : ℕ → List ℕ) (b : List ℕ) → ((j : ℕ) → length (g j) ≡ w)
    → ((j : ℕ) → j < n → Agrees (at + w * j) (g j) b) → Agrees at (rows 0 n g) b
agrees_all w n at g b l f = agrees_rows w 0 n at g b l (λ j h. rw (zero-add j) (f j h))

-- ---- bytes that agree with a row from the start on begin with it
pub agrees_front : (row b : List ℕ) → length row ≤ length b → Agrees 0 row b → front (length row) b ≡ row
unfolding front
agrees_front row b h f =
    ext_get_or 0 (front (length row) b) row (length-take-le (length row) b h)
    (λ k l. let m = length-take-le (length row) b h in
    get_or-take (length row) b k 0 (omega arith) ∙ ap (λ i. get_or b i 0) (sym (zero-add k)) ∙ f k (omega arith))
