-- What the words tell, and what makes a member of one.
use mathlib.Core.Path.{◌≡◌, refl, sym, ap, ◌∙◌}
use mathlib.Core.Logic.{◌⊎◌, inl, inr, ◌≢◌}
use mathlib.Core.Bool.{true, false}
use mathlib.Core.List.{List, []}
use Prim.Native.Nat.{ℕ, zero, suc, ◌+◌, ◌*◌, ◌/◌, ◌≤◌, ◌<◌}
use native.Mathlib.Omega.{arith}
use lib.Dec.{eqb, ltb}
use lib.ListN.{get_or, length, replicate}
use borrow.Author.Tests.{lt-ltb, le-ltb, ltb-true, eqb-true, eqb-false, eq-eqb, ne_eqb}
use Rattle.basis.specs.Choice.{test, not_both}
use Rattle.basis.specs.Fold.{up_to, fill, up_none, up_more, up_same, fill_at, length_fill}
use Rattle.sets.specs.Sets.{has, single, both, either}
use Rattle.sets.specs.Laws.{has_single, none_has}
use Rattle.graph_ring.specs.Words.{some_of, first_of}
use Rattle.graph_flow.specs.Carried.{partner_of, beyond_of}
use Rattle.graph_flow.proofs.Laws.{in_left, in_right, either_in}
use Rattle.graph_next.specs.Words.{four_of, toward_of, next_of, nexts_of, onto_of, link_of, links_of}
use Rattle.graph_links.specs.Cells.{leaving_of}
use Rattle.graph_links.specs.Starts.{note_of}
use Rattle.graph_links.proofs.Laws.{not_empty}

-- ---- four together
module _ (f : ℕ → ℕ) (i : ℕ) where
  pub four_in : has (four_of f) i ≡ true → (j : ℕ) × (j < 4) × (has (f j) i ≡ true)
  unfolding four_of
  four_in t = by (either_in (either (f 0) (f 1)) (either (f 2) (f 3)) i t)
    where
      two : (j k : ℕ) → j < 4 → k < 4 → (has (f j) i ≡ true) ⊎ (has (f k) i ≡ true)
          → (j : ℕ) × (j < 4) × (has (f j) i ≡ true)
      two j k a b (inl u) = (j, a, u)
      two j k a b (inr u) = (k, b, u)

      by : (has (either (f 0) (f 1)) i ≡ true) ⊎ (has (either (f 2) (f 3)) i ≡ true)
          → (j : ℕ) × (j < 4) × (has (f j) i ≡ true)
      by (inl u) = two 0 1 (omega arith) (omega arith) (either_in (f 0) (f 1) i u)
      by (inr u) = two 2 3 (omega arith) (omega arith) (either_in (f 2) (f 3) i u)

  pub in_four : (j : ℕ) → j < 4 → has (f j) i ≡ true → has (four_of f) i ≡ true
  unfolding four_of
  in_four zero l u = in_left (either (f 0) (f 1)) (either (f 2) (f 3)) i (in_left (f 0) (f 1) i u)
  in_four (suc zero) l u = in_left (either (f 0) (f 1)) (either (f 2) (f 3)) i (in_right (f 0) (f 1) i u)
  in_four (suc (suc zero)) l u = in_right (either (f 0) (f 1)) (either (f 2) (f 3)) i (in_left (f 2) (f 3) i u)
  in_four (suc (suc (suc zero))) l u = in_right (either (f 0) (f 1)) (either (f 2) (f 3)) i (in_right (f 2) (f 3) i u)
  in_four (suc (suc (suc (suc j)))) l u = absurd (omega arith)

-- ---- those that lead to some, told while their sets are made
pub noted_some : (v s k : ℕ) {r : ℕ} → r ≡ note_of k v s → r ≡ some_of v k s
unfolding note_of some_of
noted_some v s k e = e

module _ (f : ℕ → ℕ) where
  -- the numbers below k whose set has some
  unfoldable pub somes_of : ℕ → ℕ
  somes_of k = up_to (λ x. some_of (f x) x) k 0

  pub somes_none : 0 ≡ somes_of 0
  unfolding somes_of
  somes_none = up_none (λ x. some_of (f x) x) 0

  pub somes_more : (k : ℕ) {v s r : ℕ} → s ≡ somes_of k → v ≡ f k → r ≡ some_of v k s → r ≡ somes_of (k + 1)
  unfolding somes_of
  somes_more k {v} {s} e g h = up_more (λ x. some_of (f x) x) 0 k e (h ∙ ap (λ (w : ℕ). some_of w k s) g)

  pub somes_done : (n : ℕ) (l : List ℕ) {k s : ℕ} {c : List ℕ} → n ≤ length l → k ≡ n → c ≡ up_to (fill f) k l
      → s ≡ somes_of k → s ≡ first_of c n
  unfolding somes_of first_of
  somes_done n l m e g h =
      h ∙ rw (g, e) (up_same (λ x. some_of (f x) x) (λ x. some_of (get_or (up_to (fill f) n l) x 0) x) n 0
      (λ x s b. ap (λ (w : ℕ). some_of w x s) (sym (fill_at f n l x 0 b m))))

-- ---- routers
module _ (by : List (List ℕ)) (joints t : List ℕ) where
  -- what goes on from router x by its side o
  abbrev pub gone_by : ℕ → ℕ → ℕ
  gone_by x o = both (get_or (get_or by x []) o 0) (get_or t x 0)

  pub toward_none : (x o : ℕ) {m : ℕ} → m ≡ gone_by x o → m ≡ 0 → 0 ≡ toward_of by joints t x o
  unfolding toward_of
  toward_none x o e z = rw (← e, eq-eqb _ 0 z)

  pub toward_off : (x o : ℕ) {m q : ℕ} → m ≡ gone_by x o → m ≢ 0 → q ≡ partner_of joints (4 * x + o) → 64 ≤ q
      → 0 ≡ toward_of by joints t x o
  unfolding toward_of
  toward_off x o e n f h = rw (← e, ne_eqb _ 0 n, ← f, le-ltb _ 64 h)

  pub toward_on : (x o : ℕ) {m q v : ℕ} → m ≡ gone_by x o → m ≢ 0 → q ≡ partner_of joints (4 * x + o) → q < 64
      → v ≡ single (q / 4) → v ≡ toward_of by joints t x o
  unfolding toward_of
  toward_on x o e n f h s = rw (← e, ne_eqb _ 0 n, ← f, lt-ltb _ 64 h) s

  toward_in : (x o y : ℕ) → has (toward_of by joints t x o) y ≡ true
      → (gone_by x o ≢ 0) × (partner_of joints (4 * x + o) < 64) × (y ≡ beyond_of joints (4 * x + o))
  unfolding toward_of
  toward_in x o y u = at (test (eqb (gone_by x o) 0)) (test (ltb (partner_of joints (4 * x + o)) 64))
    where
      at : (eqb (gone_by x o) 0 ≡ true) ⊎ (eqb (gone_by x o) 0 ≡ false)
          → (ltb (partner_of joints (4 * x + o)) 64 ≡ true) ⊎ (ltb (partner_of joints (4 * x + o)) 64 ≡ false)
          → (gone_by x o ≢ 0) × (partner_of joints (4 * x + o) < 64) × (y ≡ beyond_of joints (4 * x + o))
      at (inl e) b = absurd (not_empty 0 y (rw e at u) refl)
      at (inr e) (inr f) = absurd (not_empty 0 y (rw (e, f) at u) refl)
      at (inr e) (inl f) = (
        eqb-false _ 0 e,
        ltb-true _ 64 f,
        eqb-true y (beyond_of joints (4 * x + o)) (sym (has_single (beyond_of joints (4 * x + o)) y) ∙
            (rw (e, f) at u)),
      )

  in_toward : (x o : ℕ) → gone_by x o ≢ 0 → partner_of joints (4 * x + o) < 64
      → has (toward_of by joints t x o) (beyond_of joints (4 * x + o)) ≡ true
  unfolding toward_of
  in_toward x o n h =
      rw (ne_eqb (gone_by x o) 0 n, lt-ltb (partner_of joints (4 * x + o)) 64 h)
      (has_single (beyond_of joints (4 * x + o)) (beyond_of joints (4 * x + o))
      ∙ eq-eqb (beyond_of joints (4 * x + o)) (beyond_of joints (4 * x + o)) refl)

  -- router x leads to router y: by a side
  pub record Onto (x y : ℕ) : Type 0 where
    pub side : ℕ
    pub four : side < 4
    pub some : gone_by x side ≢ 0
    pub joined : partner_of joints (4 * x + side) < 64
    pub beyond : y ≡ beyond_of joints (4 * x + side)

  nexts_at : (n x : ℕ) → x < n → n ≤ 16 → get_or (nexts_of by joints t n) x 0 ≡ next_of by joints t x
  unfolding nexts_of
  nexts_at n x h m = fill_at {A = ℕ} (next_of by joints t) n (replicate 16 0) x 0 h m

  pub next_in : (n x y : ℕ) → x < n → n ≤ 16 → has (get_or (nexts_of by joints t n) x 0) y ≡ true → Onto x y
  unfolding next_of
  next_in n x y l m u = at (four_in (toward_of by joints t x) y (rw (nexts_at n x l m) at u))
    where
      at : (j : ℕ) × (j < 4) × (has (toward_of by joints t x j) y ≡ true) → Onto x y
      at (j, h, v) =
          let b = toward_in x j y v in
          record { side = j; four = h; some = b.0; joined = b.1; beyond = b.2 }

  pub in_next : (n x y : ℕ) → x < n → n ≤ 16 → Onto x y → has (get_or (nexts_of by joints t n) x 0) y ≡ true
  unfolding next_of
  in_next n x y l m o =
      rw (nexts_at n x l m) (in_four (toward_of by joints t x) y o.side o.four
      (rw o.beyond (in_toward x o.side o.some o.joined)))

  pub nexts_long : (n : ℕ) {c : List ℕ} → c ≡ nexts_of by joints t n → length c ≡ 16
  unfolding nexts_of
  nexts_long n e = rw e (length_fill {A = ℕ} (next_of by joints t) n (replicate 16 0))

-- ---- sides
in_onto : (l : List ℕ) (m q j : ℕ) → both m (get_or l (4 * q + j) 0) ≢ 0 → has (onto_of l m q j) (4 * q + j) ≡ true
unfolding onto_of
in_onto l m q j h = rw (ne_eqb (both m (get_or l (4 * q + j) 0)) 0 h)
    (has_single (4 * q + j) (4 * q + j) ∙ eq-eqb (4 * q + j) (4 * q + j) refl)

-- the sides of a router that some of m leave by, by their own numbers
sides_of : (l : List ℕ) (m q : ℕ) {v : ℕ} → v ≡ leaving_of l m q (4 * q) → v ≡ four_of (onto_of l m q)
unfolding leaving_of four_of onto_of
sides_of l m q e = e

module _ (l joints : List ℕ) where
  pub link_none : (k : ℕ) → get_or l k 0 ≡ 0 → 0 ≡ link_of l joints k
  unfolding link_of
  link_none k e = rw (eq-eqb (get_or l k 0) 0 e)

  pub link_off : (k : ℕ) {q : ℕ} → get_or l k 0 ≢ 0 → q ≡ partner_of joints k → 64 ≤ q → 0 ≡ link_of l joints k
  unfolding link_of
  link_off k n e h = rw (ne_eqb (get_or l k 0) 0 n, ← e, le-ltb _ 64 h)

  pub link_on : (k : ℕ) {q v : ℕ} → get_or l k 0 ≢ 0 → q ≡ partner_of joints k → q < 64
      → v ≡ leaving_of l (get_or l k 0) (q / 4) (4 * (q / 4)) → v ≡ link_of l joints k
  unfolding link_of
  link_on k {q} n e h s =
      rw (ne_eqb (get_or l k 0) 0 n, ← e, lt-ltb _ 64 h) (sides_of l (get_or l k 0) (q / 4) s)

  -- side k leads to side j of the router beyond, if some of the same leave by both
  pub in_links : (n k j : ℕ) → k < n → n ≤ 64 → j < 4 → get_or l k 0 ≢ 0 → partner_of joints k < 64
      → both (get_or l k 0) (get_or l (4 * beyond_of joints k + j) 0) ≢ 0
      → has (get_or (links_of l joints n) k 0) (4 * beyond_of joints k + j) ≡ true
  unfolding links_of link_of
  in_links n k j h m f s p b =
      rw (
        fill_at {A = ℕ} (link_of l joints) n (replicate 64 0) k 0 h m,
        ne_eqb (get_or l k 0) 0 s,
        lt-ltb (partner_of joints k) 64 p,
      )
      (in_four (onto_of l (get_or l k 0) (beyond_of joints k)) (4 * beyond_of joints k + j) j f
      (in_onto l (get_or l k 0) (beyond_of joints k) j b))

  -- and to no other
  pub record Linked (k y : ℕ) : Type 0 where
    pub joined : partner_of joints k < 64
    pub beyond : y / 4 ≡ beyond_of joints k
    pub some : both (get_or l k 0) (get_or l y 0) ≢ 0

  onto_in : (m q j y : ℕ) → j < 4 → has (onto_of l m q j) y ≡ true
      → (y ≡ 4 * q + j) × (both m (get_or l (4 * q + j) 0) ≢ 0)
  unfolding onto_of
  onto_in m q j y h u = by (eq_or (both m (get_or l (4 * q + j) 0)))
    where
      eq_or : (x : ℕ) → (x ≡ 0) ⊎ (x ≢ 0)
      eq_or zero = inl refl
      eq_or (suc x) = inr (λ e. omega arith)

      by : (both m (get_or l (4 * q + j) 0) ≡ 0) ⊎ (both m (get_or l (4 * q + j) 0) ≢ 0)
          → (y ≡ 4 * q + j) × (both m (get_or l (4 * q + j) 0) ≢ 0)
      by (inl e) = absurd (not_both (rw (eq-eqb (both m (get_or l (4 * q + j) 0)) 0 e) at u) (none_has y))
      by (inr n) =
          let v : has (single (4 * q + j)) y ≡ true = rw (ne_eqb (both m (get_or l (4 * q + j) 0)) 0 n) at u in
          (eqb-true y (4 * q + j) (sym (has_single (4 * q + j) y) ∙ v), n)

  pub links_in : (n k y : ℕ) → k < n → n ≤ 64 → has (get_or (links_of l joints n) k 0) y ≡ true → Linked k y
  unfolding links_of link_of
  links_in n k y h m u = at (rw (fill_at {A = ℕ} (link_of l joints) n (replicate 64 0) k 0 h m) at u)
    where
      four : partner_of joints k < 64 → has (four_of (onto_of l (get_or l k 0) (beyond_of joints k))) y ≡ true → Linked
          k y
      four p v = made (four_in (onto_of l (get_or l k 0) (beyond_of joints k)) y v)
        where
          made : (j : ℕ) × (j < 4) × (has (onto_of l (get_or l k 0) (beyond_of joints k) j) y ≡ true) → Linked k y
          made (j, f, w) =
              let b = onto_in (get_or l k 0) (beyond_of joints k) j y f w in
              let e = b.0 in
              record { joined = p; beyond = omega arith; some = rw e b.1 }

      at : has (link_of l joints k) y ≡ true → Linked k y
      at v = by (test (eqb (get_or l k 0) 0)) (test (ltb (partner_of joints k) 64))
        where
          by : (eqb (get_or l k 0) 0 ≡ true) ⊎ (eqb (get_or l k 0) 0 ≡ false)
              → (ltb (partner_of joints k) 64 ≡ true) ⊎ (ltb (partner_of joints k) 64 ≡ false) → Linked k y
          by (inl e) g = absurd (not_both (rw e at v) (none_has y))
          by (inr e) (inl g) = four (ltb-true (partner_of joints k) 64 g) (rw (e, g) at v)
          by (inr e) (inr g) = absurd (not_both (rw (e, g) at v) (none_has y))

  pub links_long : (n : ℕ) {c : List ℕ} → c ≡ links_of l joints n → length c ≡ 64
  unfolding links_of
  links_long n e = rw e (length_fill {A = ℕ} (link_of l joints) n (replicate 64 0))
