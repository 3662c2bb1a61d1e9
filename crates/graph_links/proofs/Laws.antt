-- What the loops over ports, actives and routers make.
use mathlib.Core.Path.{◌≡◌, refl, sym, ap, ◌∙◌}
use mathlib.Core.Logic.{◌⊎◌, inl, inr, ◌≢◌}
use mathlib.Core.Bool.{Bool, true, false, true≢false}
use mathlib.Core.List.{List}
use Prim.Native.Nat.{ℕ, zero, suc, ◌+◌, ◌*◌, ◌/◌, ◌≤◌, ◌<◌}
use native.Mathlib.Omega.{arith}
use lib.Bits.{bit_or, or_zero_r}
use lib.Dec.{eqb}
use lib.ListN.{get_or, set, length, replicate, length-set}
use lib.Seq.{get_or-set_same, get_or-set_other}
use borrow.Author.Tests.{lt-ltb, le-ltb, eqb-true, eqb-false, eq-eqb, ne_eqb}
use Rattle.basis.specs.Choice.{pick, test, not_both}
use Rattle.basis.specs.Bounded.{below_suc}
use Rattle.basis.specs.Fold.{up_to, up_more, up_keeps_at}
use Rattle.sets.specs.Sets.{has, single, both, either, below}
use Rattle.sets.specs.Laws.{has_single, has_below, none_has, either_lt}
use Rattle.graph_flow.specs.Carried.{partner_of, In, Spread}
use Rattle.graph_flow.proofs.Laws.{in_left, in_right, either_in}
use Rattle.graph_links.specs.Cells.{bit_of, mask_of, leaving_of, cross_of, out_of}
use Rattle.graph_links.specs.Starts.{home_row, start_at, starts_of, alone_of, live_of, note_of, notes_of}
use Rattle.graph_links.specs.Starts.{Comes, Answering}

-- ---- masks are sets of four sides
single_small : (j : ℕ) → j < 4 → single j < 16
unfolding single
single_small zero l = omega arith
single_small (suc zero) l = omega arith
single_small (suc (suc zero)) l = omega arith
single_small (suc (suc (suc zero))) l = omega arith
single_small (suc (suc (suc (suc j)))) l = absurd (omega arith)

bit_small : (l : List ℕ) (m q j : ℕ) → j < 4 → bit_of l m q j < 16
unfolding bit_of
bit_small l m q j h = by (eqb (both m (get_or l (4 * q + j) 0)) 0)
  where
    by : (b : Bool) → pick b 0 (single j) < 16
    by true = omega arith
    by false = single_small j h

pub mask_small : (l : List ℕ) (m q : ℕ) → mask_of l m q < 16
unfolding mask_of
mask_small l m q =
    either_lt 4 (either (bit_of l m q 0) (bit_of l m q 1)) (either (bit_of l m q 2) (bit_of l m q 3))
    (either_lt 4 (bit_of l m q 0) (bit_of l m q 1) (bit_small l m q 0 (omega arith)) (bit_small l m q 1 (omega arith)))
    (either_lt 4 (bit_of l m q 2) (bit_of l m q 3) (bit_small l m q 2 (omega arith)) (bit_small l m q 3 (omega arith)))

-- the sides as numbers from 0
pub mask_is : (l : List ℕ) (m q : ℕ) {v : ℕ} → v ≡ leaving_of l m q 0 → (v ≡ mask_of l m q) × (v < 16)
unfolding leaving_of mask_of bit_of
mask_is l m q e = (e, rw e (mask_small l m q))

-- ---- cells, by the ways their code goes
module _ (l joints : List ℕ) where
  pub cross_off : (x : ℕ) {i : ℕ} → i ≡ partner_of joints (x / 4) → 64 ≤ i → 0 ≡ cross_of l joints x
  unfolding cross_of
  cross_off x e h = rw (← e, le-ltb _ 64 h)

  pub cross_out : (x : ℕ) {i q : ℕ} → i ≡ partner_of joints (x / 4) → i < 64 → q ≡ partner_of joints (out_of x) → 64 ≤ q
      → 0 ≡ cross_of l joints x
  unfolding cross_of
  cross_out x e h f k = rw (← e, lt-ltb _ 64 h, ← f, le-ltb _ 64 k)

  pub cross_none : (x : ℕ) {i q m : ℕ} → i ≡ partner_of joints (x / 4) → i < 64 → q ≡ partner_of joints (out_of x)
      → q < 64 → m ≡ both (get_or l i 0) (get_or l (out_of x) 0) → m ≡ 0 → 0 ≡ cross_of l joints x
  unfolding cross_of
  cross_none x e h f k em z = rw (← e, lt-ltb _ 64 h, ← f, lt-ltb _ 64 k, ← em, eq-eqb _ 0 z)

  pub cross_on : (x : ℕ) {i q m s v : ℕ} → i ≡ partner_of joints (x / 4) → i < 64 → q ≡ partner_of joints (out_of x)
      → q < 64
      → m ≡ both (get_or l i 0) (get_or l (out_of x) 0) → m ≢ 0 → s ≡ mask_of l m (q / 4) → v ≡ 16 * q + s
      → v ≡ cross_of l joints x
  unfolding cross_of
  cross_on x e h f k em n es ev = rw (← e, lt-ltb _ 64 h, ← f, lt-ltb _ 64 k, ← em, ne_eqb _ 0 n, ← es) ev

-- ---- empty rows
pub empty_at : (m x : ℕ) → ◌≡◌ {A = ℕ} (get_or (replicate m 0) x 0) 0
empty_at zero x = refl
empty_at (suc m) zero = refl
empty_at (suc m) (suc x) = empty_at m x

pub not_empty : (s d : ℕ) → has s d ≡ true → s ≢ 0
not_empty s d t e = true≢false (sym t ∙ ap (λ (u : ℕ). has u d) e ∙ none_has d)

-- only the row of a's router may be looked at
pub alone_whole : (k x v : ℕ) {t : List ℕ} {w : ℕ} → t ≡ replicate 32 0 → w ≡ single x → (length (set t x v) ≡ 32)
    × ((y : ℕ) → y < k → has w y ≡ false → get_or (set t x v) y 0 ≡ 0)
alone_whole k x v {t} {w} e f = rw e (length-set (replicate 32 0) x v, λ y h g. other y g (test (eqb y x)))
  where
    other : (y : ℕ) → has w y ≡ false → (eqb y x ≡ true) ⊎ (eqb y x ≡ false) → get_or (set (replicate 32 0) x v) y 0 ≡ 0
    other y g (inl q) = absurd (not_both (rw f (has_single x y ∙ q)) g)
    other y g (inr q) = get_or-set_other (replicate 32 0) x y v 0 (eqb-false y x q) ∙ empty_at 32 y

module _ (homes served : List ℕ) where
  pub starts_more : (a : ℕ) {t : List ℕ} {x v : ℕ} → t ≡ up_to (start_at homes served) a (replicate 32 0)
      → (x ≡ home_row homes a) × (x < 32) → v ≡ either (get_or t x 0) (get_or served a 0)
      → set t x v ≡ up_to (start_at homes served) (a + 1) (replicate 32 0)
  unfolding start_at
  starts_more a {t} {x} e (h, k) f = up_more (start_at homes served) (replicate 32 0) a e (rw (f, h))

  pub starts_long : (n : ℕ) → length (starts_of homes served n) ≡ 32
  unfolding starts_of start_at
  starts_long n =
      up_keeps_at (λ i t. length t ≡ 32) (start_at homes served) n (replicate 32 0)
      (λ i t h e. length-set t (home_row homes i) (either (get_or t (home_row homes i) 0) (get_or served i 0)) ∙ e) refl

  -- all rows may be looked at
  pub starts_whole : (n : ℕ) {k : ℕ} {t : List ℕ} {w : ℕ} → t ≡ starts_of homes served n → w ≡ below k
      → (length t ≡ 32) × ((x : ℕ) → x < k → has w x ≡ false → get_or t x 0 ≡ 0)
  starts_whole n {k} {t} {w} e f =
      (rw e (starts_long n), λ x l h. absurd (not_both (rw f (has_below k x ∙ lt-ltb x k l)) h))

  pub alone_is : (a : ℕ) {x : ℕ} {t : List ℕ} → t ≡ replicate 32 0 → (x ≡ home_row homes a) × (x < 32)
      → set t x (get_or served a 0) ≡ alone_of homes served a
  unfolding alone_of
  alone_is a f (e, l) = rw (f, e)

-- ---- a router's actives
note_more : (a m s d : ℕ) → has (note_of a m s) d ≡ true → (has s d ≡ true) ⊎ ((d ≡ a) × (m ≢ 0))
unfolding note_of
note_more a m s d t = by (test (eqb m 0))
  where
    new : (m ≢ 0) → (has s d ≡ true) ⊎ (has (single a) d ≡ true) → (has s d ≡ true) ⊎ ((d ≡ a) × (m ≢ 0))
    new n (inl u) = inl u
    new n (inr u) = inr (eqb-true d a (sym (has_single a d) ∙ u), n)

    by : (eqb m 0 ≡ true) ⊎ (eqb m 0 ≡ false) → (has s d ≡ true) ⊎ ((d ≡ a) × (m ≢ 0))
    by (inl e) = inl (rw e at t)
    by (inr e) = new (eqb-false m 0 e) (either_in s (single a) d (rw e at t))

note_keeps : (a m s d : ℕ) → has s d ≡ true → has (note_of a m s) d ≡ true
unfolding note_of
note_keeps a m s d t = by (eqb m 0)
  where
    by : (b : Bool) → has (pick b s (either s (single a))) d ≡ true
    by true = t
    by false = in_left s (single a) d t

note_new : (a m s : ℕ) → m ≢ 0 → has (note_of a m s) a ≡ true
unfolding note_of
note_new a m s n = rw (ne_eqb m 0 n) (in_right s (single a) a (has_single a a ∙ eq-eqb a a refl))

-- one that is served with some passive joins those that are, as its set says
pub noted_live : (served : List ℕ) (a s : ℕ) {v : ℕ} → v ≡ note_of a (get_or served a 0) s
    → v ≡ either s (live_of served a)
unfolding note_of live_of either
noted_live served a s {v} e = e ∙ by (test (eqb (get_or served a 0) 0))
  where
    by : (eqb (get_or served a 0) 0 ≡ true) ⊎ (eqb (get_or served a 0) 0 ≡ false)
        → pick (eqb (get_or served a 0) 0) s (bit_or s (single a))
        ≡ bit_or s (pick (eqb (get_or served a 0) 0) 0 (single a))
    by (inl t) = rw t (sym (or_zero_r s))
    by (inr t) = rw t

pub notes_more : (a : ℕ) (m first : List ℕ) (x : ℕ) {t : List ℕ} {v : ℕ}
    → t ≡ up_to (λ x u. set u x (note_of a (get_or m x 0) (get_or u x 0))) x first → v ≡ note_of a (get_or m x 0)
    (get_or t x 0)
    → set t x v ≡ up_to (λ x u. set u x (note_of a (get_or m x 0) (get_or u x 0))) (x + 1) first
notes_more a m first x {t} e f =
    up_more (λ x u. set u x (note_of a (get_or m x 0) (get_or u x 0))) first x e (ap (set t x) f)

-- the first i rows noted
record Noted (a : ℕ) (m first : List ℕ) (i : ℕ) (t : List ℕ) : Type 0 where
  pub long : length t ≡ length first
  pub only : (x d : ℕ) → In t x d → In first x d ⊎ ((d ≡ a) × (x < i) × (get_or m x 0 ≢ 0))
  pub keeps : (x d : ℕ) → In first x d → In t x d
  pub new : (x : ℕ) → x < i → get_or m x 0 ≢ 0 → In t x a

noted : (a : ℕ) (m : List ℕ) (n : ℕ) (first : List ℕ) → n ≤ length first → Noted a m first n (notes_of a m n first)
unfolding notes_of
noted a m n first room =
    up_keeps_at (Noted a m first) (λ x u. set u x (note_of a (get_or m x 0) (get_or u x 0))) n first turn
    (record { long = refl; only = λ x d h. inl h; keeps = λ x d h. h; new = λ x h. absurd (omega arith) })
  where
    turn : (i : ℕ) (t : List ℕ) → i < n → Noted a m first i t
        → Noted a m first (suc i) (set t i (note_of a (get_or m i 0) (get_or t i 0)))
    turn i t l s = record {
      long = length-set t i v ∙ s.long;
      only = λ x d h. was x d h (test (eqb x i));
      keeps = λ x d h. kept x d (s.keeps x d h) (test (eqb x i));
      new = λ x h k. fresh x k (below_suc h);
    }
      where
        v : ℕ
        v = note_of a (get_or m i 0) (get_or t i 0)

        same : get_or (set t i (note_of a (get_or m i 0) (get_or t i 0))) i 0 ≡ note_of a (get_or m i 0) (get_or t i 0)
        same = get_or-set_same t i (note_of a (get_or m i 0) (get_or t i 0)) 0 (omega (arith, s.long))

        later : {x d : ℕ} → In first x d ⊎ ((d ≡ a) × (x < i) × (get_or m x 0 ≢ 0))
            → In first x d ⊎ ((d ≡ a) × (x < suc i) × (get_or m x 0 ≢ 0))
        later (inl h) = inl h
        later (inr (q, h, k)) = inr (q, omega arith, k)

        at_row : (d : ℕ) → (has (get_or t i 0) d ≡ true) ⊎ ((d ≡ a) × (get_or m i 0 ≢ 0))
            → In first i d ⊎ ((d ≡ a) × (i < suc i) × (get_or m i 0 ≢ 0))
        at_row d (inl h) = later (s.only i d h)
        at_row d (inr (q, k)) = inr (q, omega arith, k)

        was : (x d : ℕ) → In (set t i (note_of a (get_or m i 0) (get_or t i 0))) x d → (eqb x i ≡ true) ⊎
            (eqb x i ≡ false)
            → In first x d ⊎ ((d ≡ a) × (x < suc i) × (get_or m x 0 ≢ 0))
        was x d h (inl q) =
            let e = eqb-true x i q in
            rw e (at_row d (note_more a (get_or m i 0) (get_or t i 0) d (rw (e, same) at h)))
        was x d h (inr q) = later
            (s.only x d (rw (get_or-set_other t i x (note_of a (get_or m i 0) (get_or t i 0)) 0 (eqb-false x i q))
            at h))

        kept : (x d : ℕ) → In t x d → (eqb x i ≡ true) ⊎ (eqb x i ≡ false)
            → In (set t i (note_of a (get_or m i 0) (get_or t i 0))) x d
        kept x d h (inl q) =
            let e = eqb-true x i q in
            rw (e, same) (note_keeps a (get_or m i 0) (get_or t i 0) d (rw e at h))
        kept x d h (inr q) = rw (get_or-set_other t i x (note_of a (get_or m i 0) (get_or t i 0)) 0 (eqb-false x i q)) h

        fresh : (x : ℕ) → get_or m x 0 ≢ 0 → (x < i) ⊎ (x ≡ i) → In (set t i (note_of a (get_or m i 0) (get_or t i 0)))
            x a
        fresh x k (inl h) = kept x a (s.new x h k) (test (eqb x i))
        fresh x k (inr e) = rw (e, same) (note_new a (get_or m i 0) (get_or t i 0) (rw e at k))

module _ (by : List (List ℕ)) (joints homes served : List ℕ) (n : ℕ) where
  pub answering_none : {t : List ℕ} → t ≡ replicate 32 0 → Answering by joints homes served n 0 t
  answering_none e = rw e (record {
    long = refl;
    sound = λ x a h. absurd (not_empty (get_or (replicate 32 0) x 0) a h (empty_at 32 x));
    complete = λ a h. absurd (omega arith);
  })

  pub answering_more : {i : ℕ} {t u m : List ℕ} → n ≤ 16 → Spread by joints n (alone_of homes served i) m
      → u ≡ notes_of i m n t
      → Answering by joints homes served n i t → Answering by joints homes served n (i + 1) u
  answering_more {i} {t} {u} {m} l s e r = rw e (record {
    long = w.long ∙ r.long;
    sound = λ x a h. was x a (w.only x a h);
    complete = λ a h. all a (below_suc {i = a} {n = i} (omega arith));
  })
    where
      w : Noted i m t n (notes_of i m n t)
      w = noted i m n t (omega (arith, r.long))

      was : (x a : ℕ) → In t x a ⊎ ((a ≡ i) × (x < n) × (get_or m x 0 ≢ 0))
          → (a < i + 1) × (x < n) × Comes by joints homes served n a x
      was x a (inl h) = let q = r.sound x a h in (omega (arith, q.0), q.1, q.2)
      was x a (inr (q, h, k)) = rw q (omega arith, h, (m, s, k))

      all : (a : ℕ) → (a < i) ⊎ (a ≡ i)
          → (k : List ℕ) × Spread by joints n (alone_of homes served a) k
          × ((x : ℕ) → x < n → get_or k x 0 ≢ 0 → In (notes_of i m n t) x a)
      all a (inl h) = let q = r.complete a h in (q.0, q.1, λ x b k. w.keeps x a (q.2 x b k))
      all a (inr q) = rw q (m, s, λ x b k. w.new x b k)

  pub answering_done : {i k : ℕ} {t : List ℕ} → Answering by joints homes served n i t → i ≡ k
      → Answering by joints homes served n k t
  answering_done r e = rw (← e) r

  -- all rows may be looked at
  pub answering_whole : {i w : ℕ} {t : List ℕ} → Answering by joints homes served n i t → w ≡ below n
      → (length t ≡ 32) × ((x : ℕ) → x < n → has w x ≡ false → get_or t x 0 ≡ 0)
  answering_whole r f = (r.long, λ x l h. absurd (not_both (rw f (has_below n x ∙ lt-ltb x n l)) h))
