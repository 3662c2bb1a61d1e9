-- What is in the tables: at first, in what leaves by a side, in the cells.
use mathlib.Core.Path.{◌≡◌, refl, sym, ap, ◌∙◌}
use mathlib.Core.Logic.{◌⊎◌, inl, inr, ◌≢◌}
use mathlib.Core.Bool.{true, false}
use mathlib.Core.List.{List, []}
use Prim.Native.Nat.{ℕ, zero, suc, ◌+◌, ◌*◌, ◌/◌, ◌%◌, ◌^◌, ◌≤◌, ◌<◌}
use native.Mathlib.Nat.{pow-suc}
use native.Mathlib.Omega.{arith}
use lib.Dec.{eqb, ltb}
use lib.ListN.{get_or, set, length, replicate, length-set}
use lib.Seq.{get_or-set_same, get_or-set_other}
use borrow.Author.Tests.{lt-ltb, ltb-true, eqb-true, eqb-false, eq-eqb, ne_eqb}
use Rattle.basis.specs.Choice.{pick, test}
use Rattle.basis.specs.Bounded.{Found, find, below_suc}
use Rattle.basis.specs.Fold.{fill_at, up_keeps_at}
use Rattle.basis.specs.Fold.{up_to, fill, up_fill, up_done}
use Rattle.sets.specs.Sets.{has, both, either}
use Rattle.sets.specs.Laws.{has_single, no_member}
use Rattle.graph_flow.specs.Carried.{partner_of, beyond_of, In}
use Rattle.graph_flow.proofs.Laws.{in_both, both_in, in_left, in_right, either_in}
use Rattle.graph_links.specs.Cells.{leave_of, leaves_of, bit_of, mask_of, crossed}
use Rattle.graph_links.specs.Cells.{cross_of, out_of}
use Rattle.graph_links.specs.Starts.{home_row, start_at, starts_of, alone_of, live_of, lives_of}
use Rattle.graph_links.proofs.Laws.{empty_at, not_empty}

-- ---- a set that is not empty has a member
under_pow : (n : ℕ) → n < 2 ^ n
under_pow zero = omega arith
under_pow (suc n) = let p = pow-suc 2 n in let q = under_pow n in omega arith

pub member : (s : ℕ) → s ≢ 0 → (d : ℕ) × (has s d ≡ true)
member s h = by (find s (has s))
  where
    by : Found s (has s) ⊎ ((i : ℕ) → i < s → has s i ≡ false) → (d : ℕ) × (has s d ≡ true)
    by (inl (d, l, t)) = (d, t)
    by (inr none) = absurd (h (no_member s s (under_pow s) none))

-- ---- what is where at first
pub record Begun (homes served : List ℕ) (i : ℕ) (t : List ℕ) : Type 0 where
  pub long : length t ≡ 32
  pub sound : (y d : ℕ) → In t y d → (a : ℕ) × (a < i) × (home_row homes a ≡ y) × (has (get_or served a 0) d ≡ true)
  pub complete : (a d : ℕ) → a < i → has (get_or served a 0) d ≡ true → In t (home_row homes a) d

row_small : (homes : List ℕ) (a : ℕ) → home_row homes a < 32
unfolding home_row
row_small homes a = omega arith

pub begun : (homes served : List ℕ) (n : ℕ) → Begun homes served n (starts_of homes served n)
unfolding starts_of start_at
begun homes served n =
    up_keeps_at (Begun homes served) (start_at homes served) n (replicate 32 0) turn
    (record {
      long = refl;
      sound = λ y d h. absurd (not_empty (get_or (replicate 32 0) y 0) d h (empty_at 32 y));
      complete = λ a d h. absurd (omega arith);
    })
  where
    turn : (i : ℕ) (t : List ℕ) → i < n → Begun homes served i t
        → Begun homes served (suc i) (start_at homes served i t)
    turn i t l s = record {
      long = length-set t (home_row homes i) v ∙ s.long;
      sound = λ y d h. was y d h (test (eqb y (home_row homes i)));
      complete = λ a d h k. put a d k (below_suc h) (test (eqb (home_row homes a) (home_row homes i)));
    }
      where
        v : ℕ
        v = either (get_or t (home_row homes i) 0) (get_or served i 0)

        row : get_or (set t (home_row homes i) v) (home_row homes i) 0 ≡ v
        row = get_or-set_same t (home_row homes i) v 0 (omega (arith, s.long, row_small homes i))

        later : (y d : ℕ) → (a : ℕ) × (a < i) × (home_row homes a ≡ y) × (has (get_or served a 0) d ≡ true)
            → (a : ℕ) × (a < suc i) × (home_row homes a ≡ y) × (has (get_or served a 0) d ≡ true)
        later y d (a, h, e, k) = (a, omega arith, e, k)

        at : (d : ℕ) → (has (get_or t (home_row homes i) 0) d ≡ true) ⊎ (has (get_or served i 0) d ≡ true)
            → (a : ℕ) × (a < suc i) × (home_row homes a ≡ home_row homes i) × (has (get_or served a 0) d ≡ true)
        at d (inl h) = later (home_row homes i) d (s.sound (home_row homes i) d h)
        at d (inr h) = (i, omega arith, refl, h)

        was : (y d : ℕ) → In (set t (home_row homes i) v) y d
            → (eqb y (home_row homes i) ≡ true) ⊎ (eqb y (home_row homes i) ≡ false)
            → (a : ℕ) × (a < suc i) × (home_row homes a ≡ y) × (has (get_or served a 0) d ≡ true)
        was y d h (inl q) =
            let e = eqb-true y (home_row homes i) q in
            rw e (at d (either_in (get_or t (home_row homes i) 0) (get_or served i 0) d (rw (e, row) at h)))
        was y d h (inr q) = later y d
            (s.sound y d (rw (get_or-set_other t (home_row homes i) y v 0 (eqb-false y (home_row homes i) q)) at h))

        put : (a d : ℕ) → has (get_or served a 0) d ≡ true → (a < i) ⊎ (a ≡ i)
            → (eqb (home_row homes a) (home_row homes i) ≡ true) ⊎ (eqb (home_row homes a) (home_row homes i) ≡ false)
            → In (set t (home_row homes i) v) (home_row homes a) d
        put a d k (inl h) (inl q) =
            let e = eqb-true (home_row homes a) (home_row homes i) q in
            rw (e, row) (in_left (get_or t (home_row homes i) 0) (get_or served i 0) d (rw e at (s.complete a d h k)))
        put a d k (inl h) (inr q) =
            rw (get_or-set_other t (home_row homes i) (home_row homes a) v 0
            (eqb-false (home_row homes a) (home_row homes i) q)) (s.complete a d h k)
        put a d k (inr e) q = rw (e, row) (in_right (get_or t (home_row homes i) 0) (get_or served i 0) d (rw e at k))

pub alone_in : (homes served : List ℕ) (a y d : ℕ) → In (alone_of homes served a) y d
    → (home_row homes a ≡ y) × (has (get_or served a 0) d ≡ true)
unfolding alone_of
alone_in homes served a y d h = by (test (eqb y (home_row homes a)))
  where
    by : (eqb y (home_row homes a) ≡ true) ⊎ (eqb y (home_row homes a) ≡ false)
        → (home_row homes a ≡ y) × (has (get_or served a 0) d ≡ true)
    by (inl q) =
        let e = eqb-true y (home_row homes a) q in (
          sym e,
          rw (e, get_or-set_same (replicate 32 0) (home_row homes a) (get_or served a 0) 0 (row_small homes a))
              at h,
        )
    by (inr q) =
        absurd (not_empty _ d (rw (get_or-set_other (replicate 32 0) (home_row homes a) y (get_or served a 0) 0
        (eqb-false y (home_row homes a) q)) at h) (empty_at 32 y))

pub in_alone : (homes served : List ℕ) (a d : ℕ) → has (get_or served a 0) d ≡ true
    → In (alone_of homes served a) (home_row homes a) d
unfolding alone_of
in_alone homes served a d h =
    rw (get_or-set_same (replicate 32 0) (home_row homes a) (get_or served a 0) 0 (row_small homes a)) h

-- the actives that are served with some passive
pub in_lives : (served : List ℕ) (n a : ℕ) → a < n → get_or served a 0 ≢ 0 → has (lives_of served n) a ≡ true
unfolding lives_of live_of
in_lives served n a l h =
    up_keeps_at (λ i s. a < i → has s a ≡ true) (λ x s. either s (live_of served x)) n 0
    (λ i s k rec b. turn i s rec (below_suc b)) (λ b. absurd (omega arith)) l
  where
    turn : (i s : ℕ) → (a < i → has s a ≡ true) → (a < i) ⊎ (a ≡ i) → has (either s (live_of served i)) a ≡ true
    turn i s rec (inl b) = in_left s (live_of served i) a (rec b)
    turn i s rec (inr e) =
        in_right s (live_of served i) a (rw (← e, ne_eqb (get_or served a 0) 0 h) (has_single a a ∙ eq-eqb a a refl))

-- ---- what leaves by a side
pub leaves_at : (by : List (List ℕ)) (t : List ℕ) (limit n k : ℕ) → k < n → n ≤ 64
    → get_or (leaves_of by t limit n) k 0 ≡ leave_of by t limit k
unfolding leaves_of
leaves_at by t limit n k l m = fill_at {A = ℕ} (leave_of by t limit) n (replicate 64 0) k 0 l m

-- its router and side by number
pub leave_at : (by : List (List ℕ)) (t : List ℕ) (limit x o : ℕ) {v : ℕ} → o < 4
    → v ≡ both (both (get_or (get_or by x []) o 0) (get_or t x 0)) limit → v ≡ leave_of by t limit (4 * x + o)
unfolding leave_of
leave_at by t limit x o l e =
    let ex : (4 * x + o) / 4 ≡ x = omega arith in
    let eo : (4 * x + o) % 4 ≡ o = omega arith in
    rw (ex, eo) e

-- four sides of a router more
pub leaves_more : (by : List (List ℕ)) (t : List ℕ) (limit x : ℕ) {l : List ℕ} {a b c d : ℕ}
    → l ≡ up_to (fill (leave_of by t limit)) (4 * x) (replicate 64 0)
    → a ≡ leave_of by t limit (4 * x + 0) → b ≡ leave_of by t limit (4 * x + 1) → c ≡ leave_of by t limit (4 * x + 2)
    → d ≡ leave_of by t limit (4 * x + 3)
    → set (set (set (set l (4 * x) a) (4 * x + 1) b) (4 * x + 2) c) (4 * x + 3) d
    ≡ up_to (fill (leave_of by t limit)) (4 * (x + 1)) (replicate 64 0)
leaves_more by t limit x {l} {a} {b} {c} {d} e ea eb ec ed =
    let z : 4 * x + 0 ≡ 4 * x = omega arith in
    let e1 = up_fill (leave_of by t limit) (replicate 64 0) (4 * x) e (rw z at ea) in
    let e2 = up_fill (leave_of by t limit) (replicate 64 0) (4 * x + 1) e1 eb in
    let s2 : 4 * x + 1 + 1 ≡ 4 * x + 2 = omega arith in
    let e3 = up_fill (leave_of by t limit) (replicate 64 0) (4 * x + 2) (rw s2 at e2) ec in
    let s3 : 4 * x + 2 + 1 ≡ 4 * x + 3 = omega arith in
    let e4 = up_fill (leave_of by t limit) (replicate 64 0) (4 * x + 3) (rw s3 at e3) ed in
    up_done (fill (leave_of by t limit)) (replicate 64 0) e4 (omega arith)

pub leave_in : (by : List (List ℕ)) (t : List ℕ) (limit k d : ℕ) → has (leave_of by t limit k) d ≡ true
    → (has (get_or (get_or by (k / 4) []) (k % 4) 0) d ≡ true) × In t (k / 4) d
unfolding leave_of
leave_in by t limit k d h =
    both_in (get_or (get_or by (k / 4) []) (k % 4) 0) (get_or t (k / 4) 0) d
    (both_in (both (get_or (get_or by (k / 4) []) (k % 4) 0) (get_or t (k / 4) 0)) limit d h).0

pub in_leave : (by : List (List ℕ)) (t : List ℕ) (limit k d : ℕ) → has (get_or (get_or by (k / 4) []) (k % 4) 0) d ≡
    true
    → In t (k / 4) d
    → has limit d ≡ true → has (leave_of by t limit k) d ≡ true
unfolding leave_of
in_leave by t limit k d a b c =
    in_both (both (get_or (get_or by (k / 4) []) (k % 4) 0) (get_or t (k / 4) 0)) limit d
    (in_both (get_or (get_or by (k / 4) []) (k % 4) 0) (get_or t (k / 4) 0) d a b) c

-- ---- cells: the group, and the nodes
pub cell_group : (g m : ℕ) → g < 64 → m < 16 → (16 * g + m) / 16 % 64 ≡ g
cell_group g m a b = omega arith

pub cell_has : (g m j : ℕ) → j < 4 → has (16 * g + m) j ≡ has m j
unfolding has
cell_has g m zero l = let e : (16 * g + m) / 1 % 2 ≡ m / 1 % 2 = omega arith in ap (λ (x : ℕ). eqb x 1) e
cell_has g m (suc zero) l = let e : (16 * g + m) / 2 % 2 ≡ m / 2 % 2 = omega arith in ap (λ (x : ℕ). eqb x 1) e
cell_has g m (suc (suc zero)) l = let e : (16 * g + m) / 4 % 2 ≡ m / 4 % 2 = omega arith in ap (λ (x : ℕ). eqb x 1) e
cell_has g m (suc (suc (suc zero))) l =
    let e : (16 * g + m) / 8 % 2 ≡ m / 8 % 2 = omega arith in
    ap (λ (x : ℕ). eqb x 1) e
cell_has g m (suc (suc (suc (suc j)))) l = absurd (omega arith)

-- ---- masks
bit_in : (l : List ℕ) (m q j i : ℕ) → has (bit_of l m q j) i ≡ true → (i ≡ j) × (both m (get_or l (4 * q + j) 0) ≢ 0)
unfolding bit_of
bit_in l m q j i t = by (test (eqb (both m (get_or l (4 * q + j) 0)) 0))
  where
    by : (eqb (both m (get_or l (4 * q + j) 0)) 0 ≡ true) ⊎ (eqb (both m (get_or l (4 * q + j) 0)) 0 ≡ false)
        → (i ≡ j) × (both m (get_or l (4 * q + j) 0) ≢ 0)
    by (inl e) = absurd (not_empty 0 i (rw e at t) refl)
    by (inr e) = (eqb-true i j (sym (has_single j i) ∙ (rw e at t)), eqb-false _ 0 e)

in_bit : (l : List ℕ) (m q j : ℕ) → both m (get_or l (4 * q + j) 0) ≢ 0 → has (bit_of l m q j) j ≡ true
unfolding bit_of
in_bit l m q j h = rw (ne_eqb (both m (get_or l (4 * q + j) 0)) 0 h) (has_single j j ∙ eq-eqb j j refl)

pub mask_in : (l : List ℕ) (m q i : ℕ) → has (mask_of l m q) i ≡ true → both m (get_or l (4 * q + i) 0) ≢ 0
unfolding mask_of
mask_in l m q i t =
    by (either_in (either (bit_of l m q 0) (bit_of l m q 1)) (either (bit_of l m q 2) (bit_of l m q 3)) i t)
  where
    at : (j : ℕ) → has (bit_of l m q j) i ≡ true → both m (get_or l (4 * q + i) 0) ≢ 0
    at j u = let b = bit_in l m q j i u in rw b.0 b.1

    two : (j k : ℕ) → (has (bit_of l m q j) i ≡ true) ⊎ (has (bit_of l m q k) i ≡ true)
        → both m (get_or l (4 * q + i) 0) ≢ 0
    two j k (inl u) = at j u
    two j k (inr u) = at k u

    by : (has (either (bit_of l m q 0) (bit_of l m q 1)) i ≡ true)
        ⊎ (has (either (bit_of l m q 2) (bit_of l m q 3)) i ≡ true)
        → both m (get_or l (4 * q + i) 0) ≢ 0
    by (inl u) = two 0 1 (either_in (bit_of l m q 0) (bit_of l m q 1) i u)
    by (inr u) = two 2 3 (either_in (bit_of l m q 2) (bit_of l m q 3) i u)

pub in_mask : (l : List ℕ) (m q j : ℕ) → j < 4 → both m (get_or l (4 * q + j) 0) ≢ 0 → has (mask_of l m q) j ≡ true
unfolding mask_of
in_mask l m q j h n = by j h (in_bit l m q j n)
  where
    low : (i : ℕ) → has (either (bit_of l m q 0) (bit_of l m q 1)) i ≡ true
        → has (either (either (bit_of l m q 0) (bit_of l m q 1)) (either (bit_of l m q 2) (bit_of l m q 3))) i ≡ true
    low i u = in_left (either (bit_of l m q 0) (bit_of l m q 1)) (either (bit_of l m q 2) (bit_of l m q 3)) i u

    high : (i : ℕ) → has (either (bit_of l m q 2) (bit_of l m q 3)) i ≡ true
        → has (either (either (bit_of l m q 0) (bit_of l m q 1)) (either (bit_of l m q 2) (bit_of l m q 3))) i ≡ true
    high i u = in_right (either (bit_of l m q 0) (bit_of l m q 1)) (either (bit_of l m q 2) (bit_of l m q 3)) i u

    by : (i : ℕ) → i < 4 → has (bit_of l m q i) i ≡ true
        → has (either (either (bit_of l m q 0) (bit_of l m q 1)) (either (bit_of l m q 2) (bit_of l m q 3))) i ≡ true
    by zero k u = low 0 (in_left (bit_of l m q 0) (bit_of l m q 1) 0 u)
    by (suc zero) k u = low 1 (in_right (bit_of l m q 0) (bit_of l m q 1) 1 u)
    by (suc (suc zero)) k u = high 2 (in_left (bit_of l m q 2) (bit_of l m q 3) 2 u)
    by (suc (suc (suc zero))) k u = high 3 (in_right (bit_of l m q 2) (bit_of l m q 3) 3 u)
    by (suc (suc (suc (suc i)))) k u = absurd (omega arith)

-- ---- what a cell with a node tells, and what makes one
module _ (l joints : List ℕ) where
  -- what leads on from the crossing x
  abbrev pub cross_cell : ℕ → ℕ
  cross_cell x = 16 * partner_of joints (out_of x) + mask_of l (crossed l joints x) (beyond_of joints (out_of x))

  pub cross_in : (x j : ℕ) → has (cross_of l joints x) j ≡ true
      → (partner_of joints (x / 4) < 64) × (partner_of joints (out_of x) < 64) × (cross_of l joints x ≡ cross_cell x)
  unfolding cross_of
  cross_in x j t =
      by (test (ltb (partner_of joints (x / 4)) 64)) (test (ltb (partner_of joints (out_of x)) 64))
      (test (eqb (crossed l joints x) 0))
    where
      by : (ltb (partner_of joints (x / 4)) 64 ≡ true) ⊎ (ltb (partner_of joints (x / 4)) 64 ≡ false)
          → (ltb (partner_of joints (out_of x)) 64 ≡ true) ⊎ (ltb (partner_of joints (out_of x)) 64 ≡ false)
          → (eqb (crossed l joints x) 0 ≡ true) ⊎ (eqb (crossed l joints x) 0 ≡ false)
          → (partner_of joints (x / 4) < 64) × (partner_of joints (out_of x) < 64)
          × (pick (ltb (partner_of joints (x / 4)) 64)
          (pick (ltb (partner_of joints (out_of x)) 64) (pick (eqb (crossed l joints x) 0) 0 (cross_cell x)) 0) 0
          ≡ cross_cell x)
      by (inl e) (inl f) (inl g) = absurd (not_empty 0 j (rw (e, f, g) at t) refl)
      by (inl e) (inl f) (inr g) = (ltb-true _ 64 e, ltb-true _ 64 f, rw (e, f, g))
      by (inl e) (inr f) b = absurd (not_empty 0 j (rw (e, f) at t) refl)
      by (inr e) b c = absurd (not_empty 0 j (rw e at t) refl)

  pub cross_is : (x : ℕ) → partner_of joints (x / 4) < 64 → partner_of joints (out_of x) < 64 → crossed l joints x ≢ 0
      → cross_of l joints x ≡ cross_cell x
  unfolding cross_of
  cross_is x a b n =
      rw (
        lt-ltb (partner_of joints (x / 4)) 64 a,
        lt-ltb (partner_of joints (out_of x)) 64 b,
        ne_eqb (crossed l joints x) 0 n,
      )

  -- the table of crossings grows by one
  pub cells_more : (x : ℕ) {v : ℕ} (cells : List ℕ) → x < length cells → v ≡ cross_of l joints x
      → ((k : ℕ) → k < x → get_or cells k 0 ≡ cross_of l joints k)
      → (k : ℕ) → k < x + 1 → get_or (set cells x v) k 0 ≡ cross_of l joints k
  cells_more x {v} cells h e f k b = by (test (eqb k x))
    where
      by : (eqb k x ≡ true) ⊎ (eqb k x ≡ false) → get_or (set cells x v) k 0 ≡ cross_of l joints k
      by (inl t) = rw (eqb-true k x t) (get_or-set_same cells x v 0 h ∙ e)
      by (inr t) =
          let away : k ≢ x = eqb-false k x t in
          get_or-set_other cells x k v 0 away ∙ f k (omega (arith, away))
