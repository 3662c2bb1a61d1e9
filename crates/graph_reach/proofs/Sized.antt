-- The table of sizes grows with what is reached, and each size in it is right.
use mathlib.Core.Path.{◌≡◌, sym, ap, ◌∙◌}
use mathlib.Core.Logic.{◌⊎◌, inl, inr}
use mathlib.Core.Bool.{true, false, ◌&&◌, true≢false}
use mathlib.Core.List.{List, []}
use Prim.Native.Nat.{ℕ, suc, ◌+◌, ◌*◌, ◌≤◌, ◌<◌}
use native.Mathlib.Omega.{arith}
use lib.Bits.{bit_or, or_zero_l, or_zero_r}
use lib.Dec.{eqb, ltb}
use lib.ListN.{get_or, set, length-set, replicate, length-replicate}
use lib.Seq.{get_or-set_same, get_or-set_other}
use borrow.Author.Tests.{eqb-true, eqb-false, ne_eqb, lt-ltb, le-ltb}
use Rattle.basis.specs.Choice.{pick, test}
use Rattle.basis.specs.Bounded.{any_below, any_true, any_of, or_cases, lt_or_ge}
use Rattle.basis.specs.Fold.{fill_at}
use Rattle.sets.specs.Sets.{has, both, less}
use Rattle.sets.specs.Laws.{has_both, has_less, none_has}
use Rattle.graph_reach.specs.declared.Span.{Span}
use Rattle.graph_reach.specs.Reach.{side_set, beyond, pull_of, sweep_at, change_of}
use Rattle.graph_reach.specs.Sizes.{longer, far_by, size_of, merged_of, row_of, far_in, Far, Sized, Told, Grows}
use Rattle.graph_reach.proofs.Sweeps.{and_parts, same_or_not, has_pull, pull_own, pull_through, sweep_same}
use Rattle.graph_reach.proofs.Sweeps.{sweep_other, sweep_length, sweep_grows}

-- ---- one router more
longer_least : (k v : ℕ) → v ≡ pick (ltb (k + 1) 16) (k + 1) 16
    → longer v ≡ pick (ltb (suc k + 1) 16) (suc k + 1) 16
unfolding longer
longer_least k v e = by (lt_or_ge (k + 1) 16) (lt_or_ge (suc k + 1) 16)
  where
    by : (k + 1 < 16) ⊎ (16 ≤ k + 1) → (suc k + 1 < 16) ⊎ (16 ≤ suc k + 1)
        → longer v ≡ pick (ltb (suc k + 1) 16) (suc k + 1) 16
    by (inl l) (inl m) =
        let is : v ≡ k + 1 = e ∙ rw (lt-ltb (k + 1) 16 l) in
        rw (is, lt-ltb (k + 1) 16 l, lt-ltb (suc k + 1) 16 m) (omega arith)
    by (inl l) (inr m) =
        let is : v ≡ k + 1 = e ∙ rw (lt-ltb (k + 1) 16 l) in
        rw (is, lt-ltb (k + 1) 16 l, le-ltb (suc k + 1) 16 m) (omega arith)
    by (inr l) (inl m) = absurd (omega arith)
    by (inr l) (inr m) =
        let is : v ≡ 16 = e ∙ rw (le-ltb (k + 1) 16 l) in
        rw (is, le-ltb (suc k + 1) 16 m)

some_size : (k v : ℕ) → v ≡ pick (ltb (k + 1) 16) (k + 1) 16 → v ≡ 0 → ⊥
some_size k v e z = by (lt_or_ge (k + 1) 16)
  where
    by : (k + 1 < 16) ⊎ (16 ≤ k + 1) → ⊥
    by (inl l) = let is : v ≡ k + 1 = e ∙ rw (lt-ltb (k + 1) 16 l) in omega arith
    by (inr l) = let is : v ≡ 16 = e ∙ rw (le-ltb (k + 1) 16 l) in omega arith

-- ---- the size from the router beyond the route's side
-- as the code puts it together: at most one is not 0
far_or : (side a b c d : ℕ)
    → bit_or (bit_or (bit_or (pick (eqb side 0) a 0) (pick (eqb side 1) b 0)) (pick (eqb side 2) c 0))
    (pick (eqb side 3) d 0)
    ≡ far_by side a b c d
unfolding far_by
far_or side a b c d = go (test (eqb side 0)) (test (eqb side 1)) (test (eqb side 2))
  where
    apart : (i j : ℕ) → (i ≡ j → ⊥) → eqb side i ≡ true → eqb side j ≡ false
    apart i j n e = ne_eqb side j (λ q. n (sym (eqb-true side i e) ∙ q))

    go : (eqb side 0 ≡ true) ⊎ (eqb side 0 ≡ false) → (eqb side 1 ≡ true) ⊎ (eqb side 1 ≡ false)
        → (eqb side 2 ≡ true) ⊎ (eqb side 2 ≡ false)
        → bit_or (bit_or (bit_or (pick (eqb side 0) a 0) (pick (eqb side 1) b 0)) (pick (eqb side 2) c 0))
        (pick (eqb side 3) d 0)
        ≡ far_by side a b c d
    go (inl e) f g =
        rw (e, apart 0 1 (λ q. omega arith) e, apart 0 2 (λ q. omega arith) e, apart 0 3 (λ q. omega arith) e)
        (or_zero_r (bit_or (bit_or a 0) 0) ∙ or_zero_r (bit_or a 0) ∙ or_zero_r a)
    go (inr e) (inl f) g =
        rw (e, f, apart 1 2 (λ q. omega arith) f, apart 1 3 (λ q. omega arith) f)
        (or_zero_r (bit_or (bit_or 0 b) 0) ∙ or_zero_r (bit_or 0 b) ∙ or_zero_l b)
    go (inr e) (inr f) (inl g) =
        rw (e, f, g, apart 2 3 (λ q. omega arith) g) (or_zero_r (bit_or (bit_or 0 0) c) ∙ or_zero_l c)
    go (inr e) (inr f) (inr g) = rw (e, f, g) (or_zero_l (pick (eqb side 3) d 0))

pub far_put : (side a b c d : ℕ) {m n o p : ℕ} → m ≡ pick (eqb side 0) a 0 → n ≡ pick (eqb side 1) b 0
    → o ≡ pick (eqb side 2) c 0 → p ≡ pick (eqb side 3) d 0 → bit_or (bit_or (bit_or m n) o) p ≡ far_by side a b c d
far_put side a b c d e f g h = rw (e, f, g, h) (far_or side a b c d)

pub size_put : (far own : ℕ) {n v : ℕ} → far ≡ n → v ≡ size_of far own → v ≡ size_of n own
size_put far own e f = f ∙ ap (λ (m : ℕ). size_of m own) e

-- it is that of one side, which is the route's; or the route has none and it is 0
far_cases : (f : ℕ → ℕ) (side : ℕ)
    → ((o : ℕ) × (o < 4) × (eqb side o ≡ true) × (far_by side (f 0) (f 1) (f 2) (f 3) ≡ f o))
    ⊎ (((o : ℕ) → o < 4 → eqb side o ≡ true → ⊥) × (far_by side (f 0) (f 1) (f 2) (f 3) ≡ 0))
unfolding far_by
far_cases f side = go (test (eqb side 0)) (test (eqb side 1)) (test (eqb side 2)) (test (eqb side 3))
  where
    go : (eqb side 0 ≡ true) ⊎ (eqb side 0 ≡ false) → (eqb side 1 ≡ true) ⊎ (eqb side 1 ≡ false)
        → (eqb side 2 ≡ true) ⊎ (eqb side 2 ≡ false) → (eqb side 3 ≡ true) ⊎ (eqb side 3 ≡ false)
        → ((o : ℕ) × (o < 4) × (eqb side o ≡ true) × (far_by side (f 0) (f 1) (f 2) (f 3) ≡ f o))
        ⊎ (((o : ℕ) → o < 4 → eqb side o ≡ true → ⊥) × (far_by side (f 0) (f 1) (f 2) (f 3) ≡ 0))
    go (inl a) b c d = inl (0, omega arith, a, rw a)
    go (inr a) (inl b) c d = inl (1, omega arith, b, rw (a, b))
    go (inr a) (inr b) (inl c) d = inl (2, omega arith, c, rw (a, b, c))
    go (inr a) (inr b) (inr c) (inl d) = inl (3, omega arith, d, rw (a, b, c, d))
    go (inr a) (inr b) (inr c) (inr d) = inr (none, rw (a, b, c, d))
      where
        none : (o : ℕ) → o < 4 → eqb side o ≡ true → ⊥
        none o l q =
            let e = eqb-true side o q in
            omega (arith, e, eqb-false side 0 a, eqb-false side 1 b, eqb-false side 2 c, eqb-false side 3 d)

-- a row's size at a place
row_at_lem : (sides : List ℕ) (column : ℕ) (next : List ℕ) (z : List (List ℕ)) (x p : ℕ) → p < 16
    → get_or (row_of sides column next z x) p 0
    ≡ size_of (far_by (get_or sides (column + p) 0) (get_or (get_or z (get_or next (4 * x + 0) 0) []) p 0)
    (get_or (get_or z (get_or next (4 * x + 1) 0) []) p 0) (get_or (get_or z (get_or next (4 * x + 2) 0) []) p 0)
    (get_or (get_or z (get_or next (4 * x + 3) 0) []) p 0))
    (get_or (get_or z x []) p 0)
unfolding row_of merged_of
row_at_lem sides column next z x p l =
    let zero-side : 4 * x + 0 ≡ 4 * x = omega arith in
    rw zero-side
    (fill_at
    (λ i. size_of (far_by (get_or sides (column + i) 0) (get_or (get_or z (get_or next (4 * x) 0) []) i 0)
    (get_or (get_or z (get_or next (4 * x + 1) 0) []) i 0) (get_or (get_or z (get_or next (4 * x + 2) 0) []) i 0)
    (get_or (get_or z (get_or next (4 * x + 3) 0) []) i 0))
    (get_or (get_or z x []) i 0))
    16 (replicate 16 0) p 0 l (rw length-replicate (omega arith)))

module _ (by : List (List ℕ)) (next : List ℕ) (routes : List (List ℕ)) (s : Span) (first t : List ℕ)
    (z : List (List ℕ))
    (told : Told by next s routes) (sized : Sized by next s first t z) (x : ℕ) (inside : x < 16) (p : ℕ)
    (place : p < 16) where
  -- the side of the route, and the size from the router beyond side o
  abbrev side : ℕ
  side = get_or (get_or routes x []) (s.column + p) 0

  abbrev far : ℕ → ℕ
  far o = get_or (get_or z (beyond by next x o) []) p 0

  -- the size is right; or none is known yet
  abbrev Right : ℕ → Type 0
  Right v =
      (has s.sized (s.column + p) ≡ true) × (has (pull_of by next t x) (s.column + p) ≡ true)
      × Far by next first (s.column + p) x v

  abbrev Blank : ℕ → Type 0
  Blank v = (v ≡ 0) × ((has s.sized (s.column + p) && has (get_or t x 0) (s.column + p)) ≡ false)

  begins : Right (get_or (get_or z x []) p 0) ⊎ Blank (get_or (get_or z x []) p 0)
  begins = go (test (has s.sized (s.column + p))) (test (has (get_or t x 0) (s.column + p)))
    where
      none : (has s.sized (s.column + p) && has (get_or t x 0) (s.column + p)) ≡ false
          → Right (get_or (get_or z x []) p 0) ⊎ Blank (get_or (get_or z x []) p 0)
      none e = inr (sized.none x p place e, e)

      go : (has s.sized (s.column + p) ≡ true) ⊎ (has s.sized (s.column + p) ≡ false)
          → (has (get_or t x 0) (s.column + p) ≡ true) ⊎ (has (get_or t x 0) (s.column + p) ≡ false)
          → Right (get_or (get_or z x []) p 0) ⊎ Blank (get_or (get_or z x []) p 0)
      go (inl a) (inl b) =
          inl (a, pull_own by next t x (s.column + p) b, sized.some x p place a b)
      go (inl a) (inr b) = none (rw (a, b))
      go (inr a) b = none (rw a)

  -- the router beyond has no size: it is not known to be reached there
  unknown : (r : ℕ) → has s.sized (s.column + p) ≡ true → get_or (get_or z r []) p 0 ≡ 0
      → has (get_or t r 0) (s.column + p) ≡ true → ⊥
  unknown r a e b = let f = sized.some r p place a b in some_size f.0 _ f.2 e

  onward : (o : ℕ) → o < 4 → eqb side o ≡ true → (far o ≡ 0 → ⊥) → Right (longer (far o))
  unfolding far_in
  onward o l e n =
      let there : has (side_set by next x o) (s.column + p) ≡ true = told.sides x o p inside l place ∙ e in
      let want : has s.sized (s.column + p) ≡ true = told.sized x o p inside l place there in
      reached there want (test (has (get_or t (beyond by next x o) 0) (s.column + p)))
    where
      reached : has (side_set by next x o) (s.column + p) ≡ true → has s.sized (s.column + p) ≡ true
          → (has (get_or t (beyond by next x o) 0) (s.column + p) ≡ true)
          ⊎ (has (get_or t (beyond by next x o) 0) (s.column + p) ≡ false)
          → Right (longer (far o))
      reached there want (inl b) =
          let f = sized.some (beyond by next x o) p place want b in (
            want,
            pull_through by next t x (s.column + p) o l there b,
            (
              suc f.0,
              any_of 4 (λ i. has (side_set by next x i) (s.column + p) && far_in by next first (s.column + p) f.0
                  (beyond by next x i))
                  o l (rw (there, f.1)),
              longer_least f.0 _ f.2,
            ),
          )
      reached there want (inr b) = absurd (n (sized.none (beyond by next x o) p place (rw (want, b))))

  -- no side that the route may have gives a size
  abbrev Dark : Type 0
  Dark = (i : ℕ) → i < 4 → eqb side i ≡ true → far i ≡ 0

  -- a size put together
  put : (n : ℕ) → ((o : ℕ) × (o < 4) × (eqb side o ≡ true) × (n ≡ far o))
      ⊎ (((o : ℕ) → o < 4 → eqb side o ≡ true → ⊥) × (n ≡ 0))
      → Right (size_of n (get_or (get_or z x []) p 0)) ⊎ (Blank (size_of n (get_or (get_or z x []) p 0)) × Dark)
  unfolding size_of
  put n (inr (none, e)) = rw e (as_was begins)
    where
      as_was : Right (get_or (get_or z x []) p 0) ⊎ Blank (get_or (get_or z x []) p 0)
          → Right (get_or (get_or z x []) p 0) ⊎ (Blank (get_or (get_or z x []) p 0) × Dark)
      as_was (inl r) = inl r
      as_was (inr k) = inr (k, λ i m q. absurd (none i m q))
  put n (inl (o, l, q, e)) = go (test (eqb n 0)) begins
    where
      dark : n ≡ 0 → Dark
      dark is i m a =
          let same : i ≡ o = sym (eqb-true side i a) ∙ eqb-true side o q in ap far same ∙ sym e ∙ is

      go : (eqb n 0 ≡ true) ⊎ (eqb n 0 ≡ false) → Right (get_or (get_or z x []) p 0) ⊎ Blank
          (get_or (get_or z x []) p 0)
          → Right (size_of n (get_or (get_or z x []) p 0)) ⊎ (Blank (size_of n (get_or (get_or z x []) p 0)) × Dark)
      go (inl a) (inl r) = rw a (inl r)
      go (inl a) (inr k) = rw a (inr (k, dark (eqb-true n 0 a)))
      go (inr a) w = rw a (inl (rw e (onward o l q (λ b. eqb-false n 0 a (e ∙ b)))))

  -- the row's size
  whole : Right (get_or (row_of (get_or routes x []) s.column next z x) p 0)
      ⊎ (Blank (get_or (row_of (get_or routes x []) s.column next z x) p 0) × Dark)
  whole =
      rw (row_at_lem (get_or routes x []) s.column next z x p place)
      (put (far_by side (far 0) (far 1) (far 2) (far 3)) (far_cases far side))

  -- so the row that is put is right for what x reaches now
  row_some : has s.sized (s.column + p) ≡ true → has (pull_of by next t x) (s.column + p) ≡ true
      → Far by next first (s.column + p) x (get_or (row_of (get_or routes x []) s.column next z x) p 0)
  row_some a b = go whole
    where
      side_of : (o : ℕ) × (o < 4) × ((has (side_set by next x o) (s.column + p) && has
          (get_or t (beyond by next x o) 0) (s.column + p)) ≡ true)
          → Dark → ⊥
      side_of (o, l, q) e =
          let w = and_parts _ _ q in
          unknown (beyond by next x o) a (e o l (sym (told.sides x o p inside l place) ∙ w.0)) w.1

      gone : Blank (get_or (row_of (get_or routes x []) s.column next z x) p 0) × Dark
          → (has (get_or t x 0) (s.column + p) ≡ true)
          ⊎ (any_below 4 (λ o. has (side_set by next x o) (s.column + p) && has (get_or t (beyond by next x o) 0)
          (s.column + p)) ≡ true) → ⊥
      gone ((e, n), f) (inl q) = true≢false (rw (a, q) at n)
      gone ((e, n), f) (inr q) = side_of (any_true 4 _ q) f

      go : Right (get_or (row_of (get_or routes x []) s.column next z x) p 0)
          ⊎ (Blank (get_or (row_of (get_or routes x []) s.column next z x) p 0) × Dark)
          → Far by next first (s.column + p) x (get_or (row_of (get_or routes x []) s.column next z x) p 0)
      go (inl r) = r.2
      go (inr k) = absurd (gone k (or_cases _ _ (sym (has_pull by next t x (s.column + p)) ∙ b)))

  row_none : (has s.sized (s.column + p) && has (pull_of by next t x) (s.column + p)) ≡ false
      → get_or (row_of (get_or routes x []) s.column next z x) p 0 ≡ 0
  row_none e = go whole
    where
      go : Right (get_or (row_of (get_or routes x []) s.column next z x) p 0)
          ⊎ (Blank (get_or (row_of (get_or routes x []) s.column next z x) p 0) × Dark)
          → get_or (row_of (get_or routes x []) s.column next z x) p 0 ≡ 0
      go (inl r) = absurd (true≢false (rw (r.0, r.1) at e))
      go (inr k) = k.0.0

-- ---- a step of a sweep
module _ (by : List (List ℕ)) (next : List ℕ) (routes : List (List ℕ)) (s : Span) (t : List ℕ) (z : List (List ℕ))
    (x : ℕ)
    (inside : x < 16) where
  -- nothing new is sized
  pub grows_same : both (less (pull_of by next t x) (get_or t x 0)) s.sized ≡ 0
      → Grows by next routes s t z (sweep_at by next x t) z
  grows_same e first told w = record {
    rows = w.rows;
    long = sweep_length by next t x ∙ w.long;
    none = λ r p l q. w.none r p l (alike r p q);
    some = λ r p l a b. w.some r p l a (older r p a b (same_or_not r x));
  }
    where
      old : (d : ℕ) → has s.sized d ≡ true → has (pull_of by next t x) d ≡ true → has (get_or t x 0) d ≡ true
      old d a b = by' (test (has (get_or t x 0) d))
        where
          by' : (has (get_or t x 0) d ≡ true) ⊎ (has (get_or t x 0) d ≡ false) → has (get_or t x 0) d ≡ true
          by' (inl q) = q
          by' (inr q) =
              absurd
              (true≢false
              (sym (has_both (less (pull_of by next t x) (get_or t x 0)) s.sized d
              ∙ rw (has_less (pull_of by next t x) (get_or t x 0) d, a, b, q))
              ∙ ap (λ (u : ℕ). has u d) e ∙ none_has d))

      older : (r p : ℕ) → has s.sized (s.column + p) ≡ true
          → has (get_or (sweep_at by next x t) r 0) (s.column + p) ≡ true
          → (r ≡ x) ⊎ (r ≡ x → ⊥) → has (get_or t r 0) (s.column + p) ≡ true
      older r p a b (inl q) =
          rw q (old (s.column + p) a (rw (q, sweep_same by next t x (rw w.long (omega arith))) at b))
      older r p a b (inr q) = rw (sweep_other by next t x r q) at b

      alike : (r p : ℕ) → (has s.sized (s.column + p) && has (get_or (sweep_at by next x t) r 0) (s.column + p))
          ≡ false
          → (has s.sized (s.column + p) && has (get_or t r 0) (s.column + p)) ≡ false
      alike r p q = by' (test (has (get_or t r 0) (s.column + p))) (test (has s.sized (s.column + p)))
        where
          by' : (has (get_or t r 0) (s.column + p) ≡ true) ⊎ (has (get_or t r 0) (s.column + p) ≡ false)
              → (has s.sized (s.column + p) ≡ true) ⊎ (has s.sized (s.column + p) ≡ false)
              → (has s.sized (s.column + p) && has (get_or t r 0) (s.column + p)) ≡ false
          by' b (inr a) = rw a
          by' (inr b) (inl a) = rw (a, b)
          by' (inl b) (inl a) =
              absurd (true≢false (rw (
                a,
                sweep_grows by next t x r (s.column + p)
                    (rw w.long (omega arith)) b,
              ) at q))

  -- the row of x is put anew
  pub grows_row : Grows by next routes s t z (sweep_at by next x t)
      (set z x (row_of (get_or routes x []) s.column next z x))
  grows_row first told w = record {
    rows = length-set z x (row_of (get_or routes x []) s.column next z x) ∙ w.rows;
    long = sweep_length by next t x ∙ w.long;
    none = λ r p l q. none' r p l q (same_or_not r x);
    some = λ r p l a b. some' r p l a b (same_or_not r x);
  }
    where
      row : List ℕ
      row = row_of (get_or routes x []) s.column next z x

      here : get_or (set z x (row_of (get_or routes x []) s.column next z x)) x []
          ≡ row_of (get_or routes x []) s.column next z x
      here = get_or-set_same z x (row_of (get_or routes x []) s.column next z x) [] (rw w.rows (omega arith))

      swept : get_or (sweep_at by next x t) x 0 ≡ pull_of by next t x
      swept = sweep_same by next t x (rw w.long (omega arith))

      none' : (r p : ℕ) → p < 16 → (has s.sized (s.column + p) && has (get_or (sweep_at by next x t) r 0)
          (s.column + p)) ≡ false
          → (r ≡ x) ⊎ (r ≡ x → ⊥) → get_or (get_or (set z x (row_of (get_or routes x []) s.column next z x)) r []) p 0 ≡
          0
      none' r p l q (inl same) = rw (same, here) (row_none by next routes s first t z told w x inside p l
          (rw (same, swept) at q))
      none' r p l q (inr other) =
          rw (get_or-set_other z x r (row_of (get_or routes x []) s.column next z x) [] other)
          (w.none r p l (rw (sweep_other by next t x r other) at q))

      some' : (r p : ℕ) → p < 16 → has s.sized (s.column + p) ≡ true
          → has (get_or (sweep_at by next x t) r 0) (s.column + p) ≡ true → (r ≡ x) ⊎ (r ≡ x → ⊥)
          → Far by next first (s.column + p) r (get_or (get_or (set z x
          (row_of (get_or routes x []) s.column next z x)) r []) p 0)
      some' r p l a b (inl same) = rw (same, here) (row_some by next routes s first t z told w x inside p l a
          (rw (same, swept) at b))
      some' r p l a b (inr other) =
          rw (get_or-set_other z x r (row_of (get_or routes x []) s.column next z x) [] other)
          (w.some r p l a (rw (sweep_other by next t x r other) at b))

-- one growth after another
pub grows_on : (by : List (List ℕ)) (next : List ℕ) (routes : List (List ℕ)) (s : Span) {t u v : List ℕ}
    {y z w : List (List ℕ)}
    → Grows by next routes s t y u z → Grows by next routes s u z v w → Grows by next routes s t y v w
grows_on by next routes s f g = λ first told a. g first told (f first told a)

-- what a step leaves where nothing new is sized, and where the row is put anew
pub stepped_same : (by : List (List ℕ)) (next : List ℕ) (routes : List (List ℕ)) (s : Span) (t : List ℕ)
    (z : List (List ℕ)) (x : ℕ)
    {v new both' : ℕ} → x < 16 → v ≡ pull_of by next t x → new ≡ less v (get_or t x 0) → both' ≡ both new s.sized
    → both' ≡ 0
    → (set t x v ≡ sweep_at by next x t) × (new ≡ change_of by next t x) × Grows by next routes s t z (set t x v) z
unfolding sweep_at change_of
stepped_same by next routes s t z x {new = new} l e f g h =
    let new_is : less (pull_of by next t x) (get_or t x 0) ≡ new = rw (← e) (sym f) in (
      ap (set t x) e,
      sym new_is,
      rw e (grows_same by next routes s t z x l (ap (λ (u : ℕ). both u s.sized) new_is ∙ sym g ∙ h)),
    )

pub stepped_row : (by : List (List ℕ)) (next : List ℕ) (routes : List (List ℕ)) (s : Span) (t : List ℕ)
    (z : List (List ℕ)) (x : ℕ)
    {v new : ℕ} {row : List ℕ} → x < 16 → v ≡ pull_of by next t x → new ≡ less v (get_or t x 0)
    → row ≡ row_of (get_or routes x []) s.column next z x
    → (set t x v ≡ sweep_at by next x t) × (new ≡ change_of by next t x) × Grows by next routes s t z (set t x v)
    (set z x row)
unfolding sweep_at change_of
stepped_row by next routes s t z x {new = new} l e f g =
    let new_is : less (pull_of by next t x) (get_or t x 0) ≡ new = rw (← e) (sym f) in
    (ap (set t x) e, sym new_is, rw (e, g) (grows_row by next routes s t z x l))
