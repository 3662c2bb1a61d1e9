-- Equal bytes, and rows of bytes: what stores make of them, for every count, width and offset.
use mathlib.Core.Path.{◌≡◌, refl, sym, ap, ◌∙◌}
use mathlib.Core.List.{List, [], ◌∷◌, ◌++◌, append_assoc, append-nil}
use Prim.Native.Nat.{ℕ, zero, suc, ◌+◌, ◌*◌, ◌≤◌, ◌<◌}
use native.Mathlib.Nat.{zero-add, suc-add, add-zero, add-suc, mul-zero, mul-suc}
use native.Mathlib.Omega.{arith}
use native.Mathlib.Numerals.{add-one}
use lib.ListN.{length, get_or, set, take, drop, replicate, length-append, length-replicate}
use lib.Seq.{drop-cons, paste}
use borrow.Rule.Slice.PartMut.{put_mid}
use Rattle.std.proofs.lemmas.List.{take-take, length-take-le, length-drop}
use Rattle.std.proofs.lemmas.List.Edits.{paste_none, paste_more}
use Rattle.std.proofs.lemmas.Slice.{put_mid-paste}
use Rattle.basis.specs.Fold.{up_to, up_same}
use Rattle.bytes_layout.specs.Rows.{rows, rows_length, span_split, past}
use Rattle.bytes_layout.proofs.Lines.{set_behind}
use Rattle.call_start.specs.Starting.{copies, filled, laid}

-- ---- equal bytes
pub length_copies : (n v : ℕ) → length (copies n v) ≡ n
unfolding copies
length_copies n v = length-replicate n v

pub copies_at : (n v i : ℕ) → i < n → get_or (copies n v) i 0 ≡ v
unfolding copies
copies_at zero v i l = absurd (omega arith)
copies_at (suc n) v zero l = refl
copies_at (suc n) v (suc i) l = copies_at n v i (omega arith)

-- split
pub copies_split : (a b v : ℕ) (r : List ℕ) → copies (a + b) v ++ r ≡ copies a v ++ (copies b v ++ r)
unfolding copies
copies_split zero b v r = rw (zero-add b)
copies_split (suc a) b v r = rw (suc-add a b) (ap (λ (l : List ℕ). v ∷ l) (copies_split a b v r))

copies_last : (n v : ℕ) (r : List ℕ) → copies (suc n) v ++ r ≡ copies n v ++ (v ∷ r)
unfolding copies
copies_last zero v r = refl
copies_last (suc n) v r = ap (λ (l : List ℕ). v ∷ l) (copies_last n v r)

-- as rows
pub copies_rows : (w i n v : ℕ) (r : List ℕ) → rows i n (λ j. copies w v) ++ r ≡ copies (w * n) v ++ r
unfolding rows copies
copies_rows w i zero v r = rw (mul-zero w) refl
copies_rows w i (suc n) v r =
    let e : w * suc n ≡ w + w * n = mul-suc w n ∙ (omega arith) in
    append_assoc (copies w v) (rows (suc i) n (λ j. copies w v)) r
    ∙ ap (λ (l : List ℕ). copies w v ++ l) (copies_rows w (suc i) n v r)
    ∙ sym (copies_split w (w * n) v r) ∙ ap (λ (k : ℕ). copies k v ++ r) (sym e)

-- ---- stored
-- by an array of them
pub laid_copies : (at n m v : ℕ) (b : List ℕ) → n ≤ m → laid at (copies m v) n b ≡ filled at n v b
unfolding laid filled
laid_copies at n m v b l =
    up_same (λ i c. set c (at + i) (get_or (copies m v) i 0)) (λ i c. set c (at + i) v) n b
    (λ i c g. ap (set c (at + i)) (copies_at m v i (omega arith)))

-- into the second of two lists
pub filled_second : (l m : List ℕ) (i k n v : ℕ) → i ≡ length l + k → filled i n v (l ++ m) ≡ l ++ filled k n v m
unfolding filled up_to
filled_second l m i k zero v e = refl
filled_second l m i k (suc n) v e =
    ap (λ (c : List ℕ). set c (i + n) v) (filled_second l m i k n v e)
    ∙ set_behind l (filled k n v m) (i + n) (k + n) v (omega arith)

-- over what stands behind a list
pub filled_behind : (pre : List ℕ) (at n v : ℕ) (b : List ℕ) → at ≡ length pre → at + n ≤ length b
    → filled at n v (pre ++ past at b) ≡ pre ++ (copies n v ++ past (at + n) b)
unfolding filled up_to copies past
filled_behind pre at zero v b e l = ap (λ (k : ℕ). pre ++ drop k b) (sym (add-zero at))
filled_behind pre at (suc n) v b e l =
    let f : List ℕ = copies n v in
    let g : n ≡ length f + 0 = omega (arith, length_copies n v) in
    ap (λ (c : List ℕ). set c (at + n) v) (filled_behind pre at n v b e (omega arith))
    ∙ set_behind pre (f ++ drop (at + n) b) (at + n) n v (omega arith)
    ∙ ap (λ (x : List ℕ). pre ++ x) (set_behind f (drop (at + n) b) n 0 v g)
    ∙ ap (λ (x : List ℕ). pre ++ (f ++ set x 0 v)) (drop-cons b (at + n) 0 (omega arith))
    ∙ ap (λ (x : List ℕ). pre ++ x) (sym (copies_last n v (drop (suc (at + n)) b)))
    ∙ ap (λ (k : ℕ). pre ++ (copies (suc n) v ++ drop k b)) (sym (add-suc at n))

-- ---- zero bytes
abbrev pub zeros : ℕ → List ℕ
zeros n = copies n 0

-- the first n bytes are zero, the others as they were
abbrev pub cleared : ℕ → List ℕ → List ℕ
cleared n b = zeros n ++ past n b

pub cleared_none : (b : List ℕ) → b ≡ cleared 0 b
unfolding copies past
cleared_none b = refl

pub cleared_more : (at n : ℕ) (b : List ℕ) → at + n ≤ length b → filled at n 0 (cleared at b) ≡ cleared (at + n) b
cleared_more at n b l =
    filled_behind (zeros at) at n 0 b (sym (length_copies at 0)) l ∙ sym (copies_split at n 0 (past (at + n) b))

-- ---- rows
-- the last of the first n + 1 rows
pub rows_last : (n : ℕ) (g : ℕ → List ℕ) (r : List ℕ) → rows 0 (suc n) g ++ r ≡ rows 0 n g ++ (g n ++ r)
unfolding rows
rows_last n g r =
    let e : suc n ≡ n + suc 0 = omega arith in
    let last : rows 0 (suc n) g ≡ rows 0 n g ++ g n =
    ap (λ (k : ℕ). rows 0 k g) e ∙ span_split 0 n 0 g
    ∙ ap (λ (k : ℕ). rows 0 n g ++ (g k ++ [])) (zero-add n)
    ∙ ap (λ (x : List ℕ). rows 0 n g ++ x) (append-nil (g n)) in
    ap (λ (x : List ℕ). x ++ r) last ∙ append_assoc (rows 0 n g) (g n) r

-- a step for each row, which makes of an old row z at its offset the new row
module _ (w at : ℕ) (z : List ℕ) (g : ℕ → List ℕ) (wide : (j : ℕ) → length (g j) ≡ w) (step : ℕ → List ℕ → List ℕ)
    (does : (j : ℕ) (l r : List ℕ) → at + w * j ≡ length l → step j (l ++ (z ++ r)) ≡ l ++ (g j ++ r))
    (pre : List ℕ) (offset : at ≡ length pre) where
  -- the first m of m + k rows are new
  some_made : (m k : ℕ) (post : List ℕ) → up_to step m (pre ++ (rows 0 (m + k) (λ j. z) ++ post))
      ≡ pre ++ (rows 0 m g ++ (rows m k (λ j. z) ++ post))
  unfolding up_to rows
  some_made zero k post = ap (λ (n : ℕ). pre ++ (rows 0 n (λ j. z) ++ post)) (zero-add k)
  some_made (suc m) k post =
      let e : suc m + k ≡ m + suc k = omega arith in
      let l : length (rows 0 m g) ≡ w * m = rows_length w 0 m g wide in
      let o : at + w * m ≡ length (pre ++ rows 0 m g) = omega (arith, length-append pre (rows 0 m g)) in
      let r : List ℕ = rows (suc m) k (λ j. z) ++ post in
      ap (λ (n : ℕ). step m (up_to step m (pre ++ (rows 0 n (λ j. z) ++ post)))) e
      ∙ ap (step m) (some_made m (suc k) post
      ∙ ap (λ (x : List ℕ). pre ++ (rows 0 m g ++ x)) (append_assoc z (rows (suc m) k (λ j. z)) post)
      ∙ sym (append_assoc pre (rows 0 m g) (z ++ r)))
      ∙ does m (pre ++ rows 0 m g) r o
      ∙ append_assoc pre (rows 0 m g) (g m ++ r)
      ∙ ap (λ (x : List ℕ). pre ++ x) (sym (rows_last m g r))

  -- all n rows
  pub rows_made : (n : ℕ) (post : List ℕ)
      → up_to step n (pre ++ (rows 0 n (λ j. z) ++ post)) ≡ pre ++ (rows 0 n g ++ post)
  unfolding rows
  rows_made n post =
      ap (λ (k : ℕ). up_to step n (pre ++ (rows 0 k (λ j. z) ++ post))) (sym (add-zero n)) ∙ some_made n 0 post

-- ---- the library's copy and fill, of a part of the bytes
laid_paste : (at : ℕ) (t b : List ℕ) (n : ℕ) → at + n ≤ length b → n ≤ length t → laid at t n b ≡ paste b at t n
unfolding laid up_to
laid_paste at t b zero l m = paste_none b at t
laid_paste at t b (suc n) l m =
    ap (λ (c : List ℕ). set c (at + n) (get_or t n 0)) (laid_paste at t b n (omega arith) (omega arith))
    ∙ paste_more b at t n 0 (omega arith) (omega arith) ∙ ap (paste b at t) (add-one n)

module _ (at n k : ℕ) (b : List ℕ) {part : List ℕ} (wide : k ≡ n) (l : at + n ≤ length b) where
  pub copied : (t : List ℕ) → n ≤ length t → part ≡ take n t → put_mid at k b part ≡ laid at t n b
  copied t m e =
      put_mid-paste at k b part (take n t) n e (sym wide) (sym (length-take-le n t m))
      ∙ ap (λ (x : List ℕ). take at b ++ x ++ drop (at + n) b) (take-take n n t (omega arith))
      ∙ sym (laid_paste at t b n l m)

  pub filled_part : (v : ℕ) → part ≡ replicate (length (take k (drop at b))) v → put_mid at k b part ≡ filled at n v b
  unfolding copies
  filled_part v e =
      let m = length_copies n v in
      let w : length (take k (drop at b)) ≡ n =
      length-take-le k (drop at b) (omega (arith, length-drop at b)) ∙ wide in
      put_mid-paste at k b part (copies n v) n (e ∙ ap (λ (i : ℕ). replicate i v) w) (sym wide) (sym m)
      ∙ sym (laid_paste at (copies n v) b n l (omega arith))
      ∙ laid_copies at n n v b (omega arith)
