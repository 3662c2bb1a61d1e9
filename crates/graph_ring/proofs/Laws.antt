-- What goes lies on no ring, what is left has a chain as long as there were sweeps; so the sweeps find a ring exactly
-- if there is one.
use mathlib.Core.Path.{◌≡◌, refl, sym, ap, ◌∙◌}
use mathlib.Core.Logic.{◌⊎◌, inl, inr, ◌≢◌}
use mathlib.Core.Bool.{Bool, true, false, not, true≢false, false≢true, and-eq-true_iff}
use mathlib.Core.List.{List}
use Prim.Native.Nat.{ℕ, zero, suc, ◌+◌, ◌-◌, ◌*◌, ◌/◌, ◌%◌, ◌≤◌, ◌<◌}
use native.Mathlib.Numerals.{add-one}
use native.Mathlib.Omega.{arith}
use lib.Dec.{eqb}
use lib.ListN.{get_or, set, length, replicate, length-set}
use lib.Seq.{get_or-set_same, get_or-set_other, set-get_or}
use lib.Bits.{and_le_r, and_le_l, or_add_and}
use borrow.Author.Tests.{lt-ltb, eqb-true, eqb-false, eq-eqb, ne_eqb}
use Rattle.basis.specs.Choice.{pick, test, refuted, affirmed, not_both}
use Rattle.basis.specs.Bounded.{Found, find, below_suc, lt_or_ge, or_cases, or_right}
use Rattle.basis.specs.Fold.{up_to, up_none, up_more, up_done, up_keeps, up_keeps_at, fill, fill_at, fill_past}
use Rattle.basis.specs.Fold.{length_fill}
use Rattle.basis.specs.Ring.{Ring, Leads, Chain, ring_in, still, longer, follow, ring_test, ring_of_test, test_of_ring}
use Rattle.sets.specs.Sets.{has, single, both, either, less, below}
use Rattle.sets.specs.Laws.{has_both, has_either, has_single, has_below, none_has, no_member, both_none}
use Rattle.graph_ring.specs.Cells.{group_of, edge, is_left, stays_of, keep_of, judge_of, judge_at, up_of, down_of}
use Rattle.graph_ring.specs.Cells.{rest_of}
use Rattle.graph_ring.specs.Cells.{first_of}

-- ---- members
-- a set of four that is not empty has a member
member : (s : ℕ) → s ≤ 15 → s ≢ 0 → Found 4 (has s)
member s l h = by (find 4 (has s))
  where
    by : Found 4 (has s) ⊎ ((i : ℕ) → i < 4 → has s i ≡ false) → Found 4 (has s)
    by (inl f) = f
    by (inr none) = absurd (h (no_member 4 s (omega arith) none))

pub not_empty : (s i : ℕ) → has s i ≡ true → s ≢ 0
not_empty s i t e = true≢false (sym t ∙ ap (λ (u : ℕ). has u i) e ∙ none_has i)

in_either : (s t i : ℕ) → has (either s t) i ≡ true → (has s i ≡ true) ⊎ (has t i ≡ true)
in_either s t i e = or_cases (has s i) (has t i) (sym (has_either s t i) ∙ e)

-- two sets that make the empty one
either_none : (s t : ℕ) → either s t ≡ 0 → (s ≡ 0) × (t ≡ 0)
unfolding either
either_none s t e =
    let a = or_add_and s t in
    let b = and_le_r s t in
    let c = and_le_l s t in
    (omega arith, omega arith)

either_empty : either 0 0 ≡ 0
unfolding either
either_empty = refl

empty_at : (m g : ℕ) → ◌≡◌ {A = ℕ} (get_or (replicate m 0) g 0) 0
empty_at zero g = refl
empty_at (suc m) zero = refl
empty_at (suc m) (suc g) = empty_at m g

not_eqb : (b : Bool) → not b ≡ true → b ≡ false
not_eqb true e = absurd (false≢true e)
not_eqb false e = refl

module _ (cells : List ℕ) where
  -- ---- a node that stays leads to one that is left
  abbrev Next : List ℕ → ℕ → Type 0
  Next left x = (y : ℕ) × (edge cells x y ≡ true) × (is_left left y ≡ true)

  stays_next : (left : List ℕ) (x : ℕ) → ((g : ℕ) → get_or left g 0 ≤ 15) → stays_of cells left x ≡ true → Next left x
  unfolding stays_of edge both
  stays_next left x small t =
      by (member (both c row) (omega (arith, and_le_r c row, small g)) (eqb-false (both c row) 0 (not_eqb _ t)))
    where
      c : ℕ
      c = get_or cells x 0

      g : ℕ
      g = group_of (get_or cells x 0)

      row : ℕ
      row = get_or left (group_of (get_or cells x 0)) 0

      by : Found 4 (has (both c row)) → Next left x
      by (i, l, u) =
          let b = (and-eq-true_iff (has c i) (has row i)).0 (sym (has_both c row i) ∙ u) in
          let eg : (4 * g + i) / 4 ≡ g = omega arith in
          let ei : (4 * g + i) % 4 ≡ i = omega arith in
          (4 * g + i, rw (eg, ei, eq-eqb g g refl) b.0, rw (eg, ei) b.1)

  next_stays : (left : List ℕ) (x y : ℕ) → edge cells x y ≡ true → is_left left y ≡ true → stays_of cells left x ≡ true
  unfolding stays_of edge
  next_stays left x y e t =
      let b = (and-eq-true_iff (eqb (group_of (get_or cells x 0)) (y / 4)) (has (get_or cells x 0) (y % 4))).0 e in
      let g : group_of (get_or cells x 0) ≡ y / 4 = eqb-true (group_of (get_or cells x 0)) (y / 4) b.0 in
      let u : has (both (get_or cells x 0) (get_or left (y / 4) 0)) (y % 4) ≡ true =
      has_both (get_or cells x 0) (get_or left (y / 4) 0) (y % 4)
      ∙ (and-eq-true_iff (has (get_or cells x 0) (y % 4)) (is_left left y)).1 (b.1, t) in
      rw (g, ne_eqb (both (get_or cells x 0) (get_or left (y / 4) 0)) 0 (not_empty _ (y % 4) u))

  -- ---- a group judged
  keep_in : (left : List ℕ) (x o i : ℕ) → has (keep_of cells left x o) i ≡ true
      → (i ≡ o) × (stays_of cells left x ≡ true)
  unfolding keep_of
  keep_in left x o i t = by (stays_of cells left x) refl t
    where
      by : (b : Bool) → stays_of cells left x ≡ b → has (pick b (single o) 0) i ≡ true
          → (i ≡ o) × (stays_of cells left x ≡ true)
      by true e u = (eqb-true i o (sym (has_single o i) ∙ u), e)
      by false e u = absurd (not_empty 0 i u refl)

  in_keep : (left : List ℕ) (x o : ℕ) → stays_of cells left x ≡ true → has (keep_of cells left x o) o ≡ true
  unfolding keep_of
  in_keep left x o e = rw e (has_single o o ∙ eq-eqb o o refl)

  module _ (left : List ℕ) (g : ℕ) where
    abbrev digit : ℕ → ℕ
    digit o = keep_of cells left (4 * g + o) o

    abbrev four : ℕ
    four = either (either (digit 0) (digit 1)) (either (digit 2) (digit 3))

    judge_is : judge_of cells left g ≡ both (get_or left g 0) four
    unfolding judge_of
    judge_is = let z : 4 * g + 0 ≡ 4 * g = omega arith in rw z

    judge_true : (i : ℕ) → has (judge_of cells left g) i ≡ true
        → (has (get_or left g 0) i ≡ true) × (stays_of cells left (4 * g + i) ≡ true)
    judge_true i t =
        let b =
        (and-eq-true_iff (has (get_or left g 0) i) (has four i)).0
        (sym (has_both (get_or left g 0) four i) ∙ (rw judge_is at t)) in
        (b.0, by (in_either (either (digit 0) (digit 1)) (either (digit 2) (digit 3)) i b.1))
      where
        at : (o : ℕ) → has (digit o) i ≡ true → stays_of cells left (4 * g + i) ≡ true
        at o u = let k = keep_in left (4 * g + o) o i u in rw k.0 k.1

        two : (o p : ℕ) → (has (digit o) i ≡ true) ⊎ (has (digit p) i ≡ true) → stays_of cells left (4 * g + i) ≡ true
        two o p (inl u) = at o u
        two o p (inr u) = at p u

        by : (has (either (digit 0) (digit 1)) i ≡ true) ⊎ (has (either (digit 2) (digit 3)) i ≡ true)
            → stays_of cells left (4 * g + i) ≡ true
        by (inl u) = two 0 1 (in_either (digit 0) (digit 1) i u)
        by (inr u) = two 2 3 (in_either (digit 2) (digit 3) i u)

    judge_of_lem : (i : ℕ) → i < 4 → has (get_or left g 0) i ≡ true → stays_of cells left (4 * g + i) ≡ true
        → has (judge_of cells left g) i ≡ true
    judge_of_lem i l t s =
        rw judge_is (has_both (get_or left g 0) four i
        ∙ (and-eq-true_iff (has (get_or left g 0) i) (has four i)).1 (t, by i l (in_keep left (4 * g + i) i s)))
      where
        by : (i : ℕ) → i < 4 → has (digit i) i ≡ true → has four i ≡ true
        by zero l u = has_either (either (digit 0) (digit 1)) (either (digit 2) (digit 3)) 0
            ∙ rw (has_either (digit 0) (digit 1) 0, u)
        by (suc zero) l u =
            has_either (either (digit 0) (digit 1)) (either (digit 2) (digit 3)) 1
            ∙ rw (has_either (digit 0) (digit 1) 1, u, or_right (has (digit 0) 1))
        by (suc (suc zero)) l u =
            has_either (either (digit 0) (digit 1)) (either (digit 2) (digit 3)) 2
            ∙ rw (has_either (digit 2) (digit 3) 2, u, or_right (has (either (digit 0) (digit 1)) 2))
        by (suc (suc (suc zero))) l u =
            has_either (either (digit 0) (digit 1)) (either (digit 2) (digit 3)) 3
            ∙ rw (
              has_either (digit 2) (digit 3) 3,
              u,
              or_right (has (digit 2) 3),
              or_right (has (either (digit 0) (digit 1)) 3),
            )
        by (suc (suc (suc (suc i)))) l u = absurd (omega arith)

    judge_le : judge_of cells left g ≤ get_or left g 0
    unfolding both
    judge_le = rw judge_is (and_le_l (get_or left g 0) four)

    -- of a group of which none is left
    pub judge_none : get_or left g 0 ≡ 0 → 0 ≡ judge_of cells left g
    judge_none e = sym (rw (judge_is, e) (both_none four))

  -- ---- a sweep as the code makes it: the first g groups judged, and nothing gone only where nothing changed
  abbrev pub Swept : List ℕ → ℕ → ℕ → List ℕ → Type 0
  Swept first g gone left = (left ≡ up_to (judge_at cells) g first) × (gone ≡ 0 → left ≡ first)

  pub swept_none : (first : List ℕ) → Swept first 0 0 first
  swept_none first = (up_none (judge_at cells) first, λ e. refl)

  pub swept_more : (g : ℕ) {first left : List ℕ} {gone v went all : ℕ} → Swept first g gone left
      → v ≡ judge_of cells left g
      → went ≡ less (get_or left g 0) v → all ≡ either gone went → Swept first (g + 1) all (set left g v)
  unfolding judge_at less
  swept_more g {first} {left} {gone} {v} {went} {all} s e f h =
      (up_more (judge_at cells) first g s.0 (ap (set left g) e), λ z. same (either_none gone went (sym h ∙ z)))
    where
      same : (gone ≡ 0) × (went ≡ 0) → set left g v ≡ first
      same (a, b) =
          let l = judge_le left g in
          let m = and_le_r (get_or left g 0) v in
          let q : v ≡ get_or left g 0 = omega arith in
          rw (q, set-get_or left g 0) (s.1 a)

  pub swept_done : (n : ℕ) {g : ℕ} {first left : List ℕ} {gone : ℕ} → Swept first g gone left → g ≡ n
      → (left ≡ up_of cells n first) × (gone ≡ 0 → left ≡ first)
  unfolding up_of
  swept_done n {first = first} s e = (up_done (judge_at cells) first s.0 e, s.1)

  -- ---- what is left in the rounds
  module _ (n : ℕ) where
    pub record Peeled (k : ℕ) (left : List ℕ) : Type 0 where
      pub long : length left ≡ 64
      pub small : (g : ℕ) → get_or left g 0 ≤ 15
      pub within : (g : ℕ) → n ≤ g → get_or left g 0 ≡ 0
      -- no node of a ring goes
      pub keeps : (r : Ring (Leads (4 * n) (edge cells))) (i : ℕ) → i ≤ r.size → is_left left (r.node i) ≡ true
      -- each node that is left has a chain of k steps
      pub chains : (x : ℕ) → is_left left x ≡ true → Chain (4 * n) (edge cells) k x

    inside : {k : ℕ} (left : List ℕ) → Peeled k left → (x : ℕ) → is_left left x ≡ true → x / 4 < n
    inside left p x t = by (lt_or_ge (x / 4) n)
      where
        by : (x / 4 < n) ⊎ (n ≤ x / 4) → x / 4 < n
        by (inl l) = l
        by (inr g) = absurd (not_empty (get_or left (x / 4) 0) (x % 4) t (p.within (x / 4) g))

    -- ---- a judged group's row, and the others
    row_same : (left : List ℕ) (g : ℕ) → g < length left → get_or (judge_at cells g left) g 0 ≡ judge_of cells left g
    unfolding judge_at
    row_same left g l = get_or-set_same left g (judge_of cells left g) 0 l

    row_other : (left : List ℕ) (g h : ℕ) → h ≢ g → get_or (judge_at cells g left) h 0 ≡ get_or left h 0
    unfolding judge_at
    row_other left g h e = get_or-set_other left g h (judge_of cells left g) 0 e

    judged : (left : List ℕ) (g x : ℕ) → g < length left → is_left (judge_at cells g left) x ≡ true
        → (is_left left x ≡ true) × (x / 4 ≡ g → stays_of cells left x ≡ true)
    judged left g x l t = by (test (eqb (x / 4) g))
      where
        by : (eqb (x / 4) g ≡ true) ⊎ (eqb (x / 4) g ≡ false)
            → (is_left left x ≡ true) × (x / 4 ≡ g → stays_of cells left x ≡ true)
        by (inl e) =
            let q : x / 4 ≡ g = eqb-true (x / 4) g e in
            let j = judge_true left g (x % 4) (rw (q, row_same left g l) at t) in
            let same : 4 * g + x % 4 ≡ x = omega arith in
            (rw q j.0, λ k. rw same at j.1)
        by (inr e) =
            let q = eqb-false (x / 4) g e in
            (rw (row_other left g (x / 4) q) at t, λ k. absurd (q k))

    judging : (left : List ℕ) (g x : ℕ) → g < length left → is_left left x ≡ true → stays_of cells left x ≡ true
        → is_left (judge_at cells g left) x ≡ true
    judging left g x l t s = by (test (eqb (x / 4) g))
      where
        by : (eqb (x / 4) g ≡ true) ⊎ (eqb (x / 4) g ≡ false) → is_left (judge_at cells g left) x ≡ true
        by (inl e) =
            let q : x / 4 ≡ g = eqb-true (x / 4) g e in
            let same : 4 * g + x % 4 ≡ x = omega arith in
            rw (q, row_same left g l) (judge_of_lem left g (x % 4) (omega arith) (rw q at t) (rw same s))
        by (inr e) = rw (row_other left g (x / 4) (eqb-false (x / 4) g e)) t

    peeled_judge : (k g : ℕ) (left : List ℕ) → n ≤ 64 → g < n → Peeled k left → Peeled k (judge_at cells g left)
    unfolding judge_at
    peeled_judge k g left m l p = record {
      long = length-set left g (judge_of cells left g) ∙ p.long;
      small = λ h. rows h (test (eqb h g));
      within = λ h b. row_other left g h (λ e. not_below e b) ∙ p.within h b;
      keeps = λ r i b. judging left g (r.node i) (omega (arith, p.long)) (p.keeps r i b)
          (goes r i (below_suc {n = r.size} (omega arith)));
      chains = λ x t. p.chains x (judged left g x (omega (arith, p.long)) t).0;
    }
      where
        not_below : {h : ℕ} → h ≡ g → n ≤ h → ⊥
        not_below e b = omega arith

        rows : (h : ℕ) → (eqb h g ≡ true) ⊎ (eqb h g ≡ false) → get_or (set left g (judge_of cells left g)) h 0 ≤ 15
        rows h (inl e) =
            let a = row_same left g (omega (arith, p.long)) in
            rw (eqb-true h g e) (omega (arith, judge_le left g, p.small g))
        rows h (inr e) = rw (row_other left g h (eqb-false h g e)) (p.small h)

        goes : (r : Ring (Leads (4 * n) (edge cells))) (i : ℕ) → (i < r.size) ⊎ (i ≡ r.size)
            → stays_of cells left (r.node i) ≡ true
        goes r i (inl b) = next_stays left (r.node i) (r.node (suc i)) (r.linked i b).step (p.keeps r (suc i) b)
        goes r i (inr e) =
            rw (e, r.closed)
            (next_stays left (r.node 0) (r.node 1) (r.linked 0 r.some).step (p.keeps r 1 r.some))

    -- ---- the sweeps
    pub peeled_down : (k : ℕ) {left after : List ℕ} → n ≤ 64 → after ≡ down_of cells n left → Peeled k left
        → Peeled k after
    unfolding down_of
    peeled_down k {left} {after} m e p =
        rw e (up_keeps (Peeled k) (λ i. judge_at cells (n - 1 - i)) n left
        (λ i t h q. peeled_judge k (n - 1 - i) t m (omega arith) q) p)

    -- the first i groups judged: what is left there leads to what was left before
    record Turned (k : ℕ) (left : List ℕ) (i : ℕ) (after : List ℕ) : Type 0 where
      pub peeled : Peeled k after
      pub fewer : (x : ℕ) → is_left after x ≡ true → is_left left x ≡ true
      pub leads : (x : ℕ) → x / 4 < i → is_left after x ≡ true → Next left x

    turned : (k : ℕ) (left after : List ℕ) → n ≤ 64 → after ≡ up_of cells n left → Peeled k left → Turned k left n after
    unfolding up_of
    turned k left after m e p =
        rw e (up_keeps_at (Turned k left) (judge_at cells) n left turn
        (record { peeled = p; fewer = λ x t. t; leads = λ x b t. absurd (omega arith) }))
      where
        turn : (i : ℕ) (t : List ℕ) → i < n → Turned k left i t → Turned k left (suc i) (judge_at cells i t)
        turn i t h q = record {
          peeled = peeled_judge k i t m h q.peeled;
          fewer = λ x u. q.fewer x (was x u).0;
          leads = λ x b u. at x u (below_suc b);
        }
          where
            was : (x : ℕ) → is_left (judge_at cells i t) x ≡ true
                → (is_left t x ≡ true) × (x / 4 ≡ i → stays_of cells t x ≡ true)
            was x u = judged t i x (omega (arith, q.peeled.long)) u

            at : (x : ℕ) → is_left (judge_at cells i t) x ≡ true → (x / 4 < i) ⊎ (x / 4 ≡ i) → Next left x
            at x u (inl b) = q.leads x b (was x u).0
            at x u (inr e) =
                let s = stays_next t x q.peeled.small ((was x u).1 e) in
                (s.0, s.1, q.fewer s.0 s.2)

    pub peeled_up : (k : ℕ) {left after : List ℕ} → n ≤ 64 → after ≡ up_of cells n left → Peeled k left
        → Peeled (k + 1) after
    peeled_up k {left} {after} m e p =
        let t = turned k left after m e p in
        rw add-one (record {
          long = t.peeled.long;
          small = t.peeled.small;
          within = t.peeled.within;
          keeps = t.peeled.keeps;
          chains = λ x u. longer_by x (inside after t.peeled x u) (t.leads x (inside after t.peeled x u) u);
        })
      where
        longer_by : (x : ℕ) → x / 4 < n → Next left x → Chain (4 * n) (edge cells) (suc k) x
        longer_by x l (y, e, u) = longer (4 * n) (edge cells) (omega arith) e (p.chains y u)

    -- ---- at the start
    pub peeled_first : {left : List ℕ} → n ≤ 64 → left ≡ first_of n → Peeled 0 left
    unfolding first_of below
    peeled_first m e = rw e (record {
      long = length_fill {A = ℕ} (λ g. 15) n (replicate 64 0);
      small = λ g. rows g (lt_or_ge g n);
      within = λ g b. fill_past {A = ℕ} (λ g. 15) n (replicate 64 0) g 0 b ∙ none g;
      keeps = λ r i b. node r i (below_suc {n = r.size} (omega arith));
      chains = λ x t. still (4 * n) (edge cells) x (omega (arith, low x t));
    })
      where
        none : (g : ℕ) → ◌≡◌ {A = ℕ} (get_or (replicate 64 0) g 0) 0
        none g = empty_at 64 g

        rows : (g : ℕ) → (g < n) ⊎ (n ≤ g) → get_or (up_to (fill (λ g. 15)) n (replicate 64 0)) g 0 ≤ 15
        rows g (inl l) = rw (fill_at {A = ℕ} (λ g. 15) n (replicate 64 0) g 0 l m) (omega arith)
        rows g (inr b) = rw (fill_past {A = ℕ} (λ g. 15) n (replicate 64 0) g 0 b, none g) (omega arith)

        full : (x : ℕ) → x < 4 * n → is_left (up_to (fill (λ g. 15)) n (replicate 64 0)) x ≡ true
        full x l =
            rw (fill_at {A = ℕ} (λ g. 15) n (replicate 64 0) (x / 4) 0 (omega arith) m)
            (has_below 4 (x % 4) ∙ lt-ltb (x % 4) 4 (omega arith))

        node : (r : Ring (Leads (4 * n) (edge cells))) (i : ℕ) → (i < r.size) ⊎ (i ≡ r.size)
            → is_left (up_to (fill (λ g. 15)) n (replicate 64 0)) (r.node i) ≡ true
        node r i (inl l) = full (r.node i) (r.linked i l).from
        node r i (inr q) = rw (q, r.closed) (full (r.node 0) (r.linked 0 r.some).from)

        low : (x : ℕ) → is_left (up_to (fill (λ g. 15)) n (replicate 64 0)) x ≡ true → x / 4 < n
        low x t = by (lt_or_ge (x / 4) n)
          where
            by : (x / 4 < n) ⊎ (n ≤ x / 4) → x / 4 < n
            by (inl l) = l
            by (inr b) = absurd
                (not_empty _ (x % 4) t (fill_past {A = ℕ} (λ g. 15) n (replicate 64 0) (x / 4) 0 b ∙ none (x / 4)))

    -- ---- the ends
    rest_none : (left : List ℕ) → rest_of n left ≡ 0 → (g : ℕ) → g < n → get_or left g 0 ≡ 0
    unfolding rest_of
    rest_none left e = up_keeps_at (λ i s. s ≡ 0 → (g : ℕ) → g < i → get_or left g 0 ≡ 0)
        (λ g s. either s (get_or left g 0)) n 0 step (λ q g h. absurd (omega arith)) e
      where
        step : (i s : ℕ) → i < n → (s ≡ 0 → (g : ℕ) → g < i → get_or left g 0 ≡ 0) → either s (get_or left i 0) ≡ 0
            → (g : ℕ) → g < suc i → get_or left g 0 ≡ 0
        step i s h rec q g l = at (below_suc l)
          where
            at : (g < i) ⊎ (g ≡ i) → get_or left g 0 ≡ 0
            at (inl b) = rec (either_none s (get_or left i 0) q).0 g b
            at (inr f) = rw f (either_none s (get_or left i 0) q).1

    rest_some : (left : List ℕ) → rest_of n left ≢ 0 → (g : ℕ) × (get_or left g 0 ≢ 0)
    unfolding rest_of
    rest_some left h = up_keeps (λ s. s ≢ 0 → (g : ℕ) × (get_or left g 0 ≢ 0)) (λ g s. either s (get_or left g 0)) n 0
        step
        (λ q. absurd (q refl)) h
      where
        step : (i s : ℕ) → i < n → (s ≢ 0 → (g : ℕ) × (get_or left g 0 ≢ 0)) → either s (get_or left i 0) ≢ 0
            → (g : ℕ) × (get_or left g 0 ≢ 0)
        step i s l rec q = by (test (eqb (get_or left i 0) 0)) (test (eqb s 0))
          where
            by : (eqb (get_or left i 0) 0 ≡ true) ⊎ (eqb (get_or left i 0) 0 ≡ false)
                → (eqb s 0 ≡ true) ⊎ (eqb s 0 ≡ false) → (g : ℕ) × (get_or left g 0 ≢ 0)
            by (inr e) f = (i, eqb-false (get_or left i 0) 0 e)
            by (inl e) (inr f) = rec (eqb-false s 0 f)
            by (inl e) (inl f) = absurd (q (rw (eqb-true s 0 f, eqb-true (get_or left i 0) 0 e) either_empty))

    pub ends_none : {k : ℕ} {left : List ℕ} {rest : ℕ} → rest ≡ rest_of n left → rest ≡ 0 → Peeled k left
        → false ≡ ring_test (4 * n) (edge cells)
    ends_none {k} {left} f e p =
        sym (refuted (ring_test (4 * n) (edge cells)) (λ t. some (ring_of_test (4 * n) (edge cells) t)))
      where
        some : Ring (Leads (4 * n) (edge cells)) → ⊥
        some r =
            let u = p.keeps r 0 (omega arith) in
            not_empty _ (r.node 0 % 4) u (rest_none left (sym f ∙ e) (r.node 0 / 4) (inside left p (r.node 0) u))

    node_left : {k : ℕ} (left : List ℕ) → Peeled k left → rest_of n left ≢ 0 → (x : ℕ) × (is_left left x ≡ true)
    node_left left p h = by (rest_some left h)
      where
        by : (g : ℕ) × (get_or left g 0 ≢ 0) → (x : ℕ) × (is_left left x ≡ true)
        by (g, q) =
            let m = member (get_or left g 0) (p.small g) q in
            let eg : (4 * g + m.0) / 4 ≡ g = omega (arith, m.1) in
            let ei : (4 * g + m.0) % 4 ≡ m.0 = omega (arith, m.1) in
            (4 * g + m.0, rw (eg, ei) m.2)

    -- as many rounds as there are nodes
    pub ends_long : {k : ℕ} {left : List ℕ} {rest : ℕ} → k ≡ 4 * n → rest ≡ rest_of n left → Peeled k left
        → not (eqb rest 0) ≡ ring_test (4 * n) (edge cells)
    ends_long {k} {left} {rest} q f p = by (test (eqb rest 0))
      where
        round : Peeled (4 * n) left → rest_of n left ≢ 0 → true ≡ ring_test (4 * n) (edge cells)
        round whole h =
            let x = node_left left whole h in
            sym (test_of_ring (4 * n) (edge cells) (ring_in (4 * n) (edge cells) (whole.chains x.0 x.1)))

        by : (eqb rest 0 ≡ true) ⊎ (eqb rest 0 ≡ false) → not (eqb rest 0) ≡ ring_test (4 * n) (edge cells)
        by (inl e) = rw e (ends_none f (eqb-true rest 0 e) p)
        by (inr e) = rw e (round (rw q at p) (λ z. eqb-false rest 0 e (f ∙ z)))

    -- a sweep in which none goes
    pub ends_still : {k : ℕ} {left after : List ℕ} {rest : ℕ} → n ≤ 64 → rest ≡ rest_of n left → rest ≢ 0
        → Peeled k left → after ≡ up_of cells n left → after ≡ left → true ≡ ring_test (4 * n) (edge cells)
    ends_still {k} {left} {after} m f h p e s =
        sym (affirmed (ring_test (4 * n) (edge cells)) (λ u. none u (node_left left p (λ q. h (f ∙ q)))))
      where
        t : Turned k left n after
        t = turned k left after m e p

        step : (x : ℕ) → is_left left x ≡ true → ((y : ℕ) × (is_left left y ≡ true) × (edge cells x y ≡ true)) ⊎ ⊥
        step x u = let b = t.leads x (inside left p x u) (rw s u) in inl (b.0, b.2, b.1)

        none : ring_test (4 * n) (edge cells) ≡ false → (x : ℕ) × (is_left left x ≡ true) → ⊥
        none u (x, v) =
            follow (4 * n) (edge cells) ⊥ (λ q. is_left left q ≡ true) (λ q w. omega (arith, inside left p q w)) step
            (λ r. not_both (test_of_ring (4 * n) (edge cells) r) u) x v
