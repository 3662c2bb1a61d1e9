-- The general law of a store into rows: bytes in which one row is changed, and what stores into that row make of them.
use mathlib.Core.Path.{◌≡◌, refl, sym, ap, ap₂, ◌∙◌, subst}
use mathlib.Core.Logic.{◌≢◌, ◌⊎◌, inl, inr}
use mathlib.Core.Bool.{Bool, true, false}
use mathlib.Core.List.{List, [], ◌∷◌, ◌++◌, append_assoc, append-nil}
use Prim.Native.Nat.{ℕ, suc, ◌+◌, ◌*◌, ◌-◌, ◌<◌}
use native.Mathlib.Omega.{arith}
use lib.ListN.{length, length-append}
use lib.Seq.{sets, set_at}
use Rattle.basis.specs.Choice.{pick, test}
use Rattle.rules.specs.Store.{put, put_here}
use Rattle.bytes_layout.specs.Rows.{rows, rows_length, rows_same, span_at}

-- b has a row at an offset, and c is b with another row in its place
pub record RowChanges (at : ℕ) (row new b c : List ℕ) : Type 0 where
  pub before : List ℕ
  pub after : List ℕ
  pub was : b ≡ before ++ (row ++ after)
  pub is : c ≡ before ++ (new ++ after)
  pub offset : at ≡ length before

-- a whole list is changed
pub changes_whole : (b c : List ℕ) → RowChanges 0 b c b c
changes_whole b c =
    record { before = []; after = []; was = sym (append-nil b); is = sym (append-nil c); offset = refl }

-- of what is changed, the first part alone, or the second alone
pub changes_left : (at : ℕ) (row new y b c : List ℕ) → RowChanges at (row ++ y) (new ++ y) b c
    → RowChanges at row new b c
changes_left at row new y b c t =
    record {
      before = t.before;
      after = y ++ t.after;
      was = t.was ∙ ap (λ l. t.before ++ l) (append_assoc row y t.after);
      is = t.is ∙ ap (λ l. t.before ++ l) (append_assoc new y t.after);
      offset = t.offset;
    }

pub changes_right : (at to : ℕ) (x row new b c : List ℕ) → to ≡ at + length x
    → RowChanges at (x ++ row) (x ++ new) b c → RowChanges to row new b c
changes_right at to x row new b c e t =
    record {
      before = t.before ++ x;
      after = t.after;
      was = t.was ∙ turn row;
      is = t.is ∙ turn new;
      offset = let o = t.offset in omega (arith, length-append t.before x);
    }
  where
    turn : (z : List ℕ) → t.before ++ ((x ++ z) ++ t.after) ≡ (t.before ++ x) ++ (z ++ t.after)
    turn z =
        ap (λ l. t.before ++ l) (append_assoc x z t.after) ∙ sym (append_assoc t.before x (z ++ t.after))

-- a part in the middle alone
pub changes_part : (at k : ℕ) (x row new y b c : List ℕ) → k ≡ length x
    → RowChanges at (x ++ (row ++ y)) (x ++ (new ++ y)) b c → RowChanges (at + k) row new b c
changes_part at k x row new y b c e t =
    changes_left (at + k) row new y b c (changes_right at (at + k) x (row ++ y) (new ++ y) b c (omega arith) t)

-- of rows that agree but for row q, row q is changed
pub changes_row : (w n at : ℕ) (g h : ℕ → List ℕ) (b c : List ℕ) → ((j : ℕ) → length (g j) ≡ w) → (q : ℕ) → q < n
    → ((j : ℕ) → j < n → j ≢ q → g j ≡ h j) → RowChanges at (rows 0 n g) (rows 0 n h) b c
    → RowChanges (at + w * q) (g q) (h q) b c
changes_row w n at g h b c l q lt same t =
    changes_part at (w * q) first (g q) (h q) last b c (sym (rows_length w 0 q g l))
    (record {
      before = t.before;
      after = t.after;
      was = t.was ∙ ap (λ x. t.before ++ (x ++ t.after)) (span_at n q g lt);
      is = t.is ∙ ap (λ x. t.before ++ (x ++ t.after)) (span_at n q h lt ∙ agree);
      offset = t.offset;
    })
  where
    first : List ℕ
    first = rows 0 q g

    last : List ℕ
    last = rows (suc q) (n - suc q) g

    agree : rows 0 q h ++ (h q ++ rows (suc q) (n - suc q) h) ≡ first ++ (h q ++ last)
    agree =
        ap₂ (λ x y. x ++ (h q ++ y))
        (rows_same 0 q h g (λ j a d. sym (same j (omega arith) (λ e. omega arith))))
        (rows_same (suc q) (n - suc q) h g (λ j a d. sym (same j (omega arith) (λ e. omega arith))))

-- a store changed at k: away from k, and where the two values are one for f, f is as it was
pub put_unseen : {X A B : Type 0} (same : X → X → Bool) (same-one : (x y : X) → same x y ≡ true → x ≡ y) (f : A → B)
    (m : X → A) (k : X) (a : A) (x : X) → (x ≡ k → f (m x) ≡ f a) → f (m x) ≡ f (put same m k a x)
put_unseen {A = A} same same-one f m k a x u = by (test (same x k))
  where
    by : (same x k ≡ true) ⊎ (same x k ≡ false) → f (m x) ≡ f (put same m k a x)
    by (inl e) = u (same-one x k e) ∙ ap (λ (t : Bool). f (pick {A = A} t a (m x))) (sym e)
    by (inr e) = ap (λ (t : Bool). f (pick {A = A} t a (m x))) (sym e)

-- ---- the general law: rows of names, each at its number, and a store from which each row takes its value. What is
-- put into the store at a name is put into the row of that name.
module _ {N X : Type 0} (same : N → N → Bool) (one : (x : N) → same x x ≡ true)
    (same-one : (x y : N) → same x y ≡ true → x ≡ y) (number : N → ℕ) (named : ℕ → N) (row : X → N → List ℕ)
    (m : N → X) (q : N) (v : X) where
  pub changes_store : (w n at : ℕ) (g h : N → List ℕ) (b c : List ℕ) → ((x : N) → g x ≡ row (m x) x)
      → ((x : N) → h x ≡ row (put same m q v x) x) → ((x : N) → length (g x) ≡ w)
      → ((j : ℕ) → j < n → number (named j) ≡ j) → named (number q) ≡ q → number q < n
      → RowChanges at (rows 0 n (λ j. g (named j))) (rows 0 n (λ j. h (named j))) b c
      → RowChanges (at + w * number q) (row (m q) q) (row v q) b c
  changes_store w n at g h b c was is l back e lt t =
      subst (λ (r : List ℕ). RowChanges (at + w * number q) r (row v q) b c) (was q)
      (subst (λ (r : List ℕ). RowChanges (at + w * number q) (g q) r b c)
      (is q ∙ ap (λ (a : X). row a q) (put_here same one same-one m q v))
      (subst (λ (x : N). RowChanges (at + w * number q) (g x) (h x) b c) e
      (changes_row w n at (λ j. g (named j)) (λ j. h (named j)) b c (λ j. l (named j)) (number q) lt agree t)))
    where
      agree : (j : ℕ) → j < n → j ≢ number q → g (named j) ≡ h (named j)
      agree j k ne =
          was (named j)
          ∙ put_unseen same same-one (λ (a : X). row a (named j)) m q v (named j)
          (λ i. absurd (ne (sym (back j k) ∙ ap number i)))
          ∙ sym (is (named j))

-- ---- what is done to the row is done to the bytes
pub on_row : (at : ℕ) (row new b c : List ℕ) (op : List ℕ → List ℕ) → RowChanges at row new b c
    → ((l r : List ℕ) → at ≡ length l → op (l ++ (row ++ r)) ≡ l ++ (new ++ r)) → op b ≡ c
on_row at row new b c op t k = ap op t.was ∙ k t.before t.after t.offset ∙ sym t.is

-- a run of stores that covers a row puts the new row there
pub sets_row : (row new l r : List ℕ) (i : ℕ) → i ≡ length l → length new ≡ length row
    → sets (l ++ (row ++ r)) i new ≡ l ++ (new ++ r)
sets_row [] [] l r i e k = refl
sets_row [] (v ∷ new) l r i e k = absurd (omega arith)
sets_row (a ∷ row) [] l r i e k = absurd (omega arith)
sets_row (a ∷ row) (v ∷ new) l r i e k =
    ap (λ x. sets x (suc i) new) (set_at l a (row ++ r) v i (sym e) ∙ sym (append_assoc l (v ∷ []) (row ++ r)))
    ∙ sets_row row new (l ++ (v ∷ [])) r (suc i) (omega (arith, length-append l (v ∷ []))) (omega arith)
    ∙ append_assoc l (v ∷ []) (new ++ r)

-- the row is stored over: the general law
pub store_row : (at : ℕ) (row new b c : List ℕ) → length new ≡ length row → RowChanges at row new b c
    → sets b at new ≡ c
store_row at row new b c e t = on_row at row new b c (λ x. sets x at new) t (λ l r o. sets_row row new l r at o e)

-- and a part of it
pub store_part : (at k : ℕ) (x row new y b c : List ℕ) → k ≡ length x → length new ≡ length row
    → RowChanges at (x ++ (row ++ y)) (x ++ (new ++ y)) b c → sets b (at + k) new ≡ c
store_part at k x row new y b c e l t =
    store_row (at + k) row new b c l (changes_part at k x row new y b c e t)
