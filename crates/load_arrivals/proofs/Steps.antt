-- A turn of the loops that fill the tables.
use mathlib.Core.Path.{◌≡◌, refl, sym, ap, ◌∙◌}
use mathlib.Core.Logic.{◌⊎◌, inl, inr}
use mathlib.Core.Bool.{Bool, true, false, true≢false}
use mathlib.Core.List.{List, []}
use Prim.Native.Nat.{ℕ, zero, ◌+◌, ◌/◌, ◌≤◌, ◌<◌}
use native.Mathlib.Omega.{arith}
use lib.Dec.{eqb}
use lib.ListN.{get_or, set, length, take, length-set, replicate, length-replicate}
use Rattle.std.proofs.lemmas.List.{length-take-le}
use lib.Seq.{get_or-set_same, get_or-set_other}
use borrow.Author.Tests.{lt-ltb}
use Rattle.basis.specs.Choice.{pick, test}
use Rattle.basis.specs.Bounded.{all_below, all_at, all_of, lt_or_ge}
use Rattle.basis.specs.Fold.{up_to, fill, length_fill, fill_at, fill_past}
use Rattle.plan.specs.declared.Head.{Head}
use Rattle.plan_facts.proofs.Tables.{replicate_at}
use Rattle.sets.specs.Sets.{has, both, less, below}
use Rattle.sets.specs.Laws.{has_both, has_less, has_below, none_has}
use Rattle.graph_reach.specs.Reach.{Idle, Reached}
use Rattle.graph_reach.proofs.Sweeps.{same_or_not, and_parts, reach_idle}
use Rattle.load_arrivals.specs.Tables.{OnlyBelow, first_of, first_step, firsts_of, near_of, near_step, nears_of, far_of}
use Rattle.load_arrivals.specs.Pairs.{plain_of, at_home, at_homes, Lacking, Sift, Chosen, Choices, Known, Serving}
use Rattle.load_arrivals.specs.Pairs.{Servings, length_of, lengths_by}

pub first_step_lem : (by : List (List ℕ)) (homes : List ℕ) (d : ℕ) (t : List ℕ) {k v : ℕ} → k ≡ get_or homes d 0
    → v ≡ first_of by (get_or t (k / 4) 0) k d → set t (k / 4) v ≡ first_step by homes d t
unfolding first_step
first_step_lem by homes d t {k} e f = ap (set t (k / 4)) f ∙ ap (λ (i : ℕ). set t (i / 4)
    (first_of by (get_or t (i / 4) 0) i d)) e

pub firsts_done : (by : List (List ℕ)) (homes : List ℕ) {d n : ℕ} {t t₀ : List ℕ} → t₀ ≡ replicate 32 0
    → t ≡ up_to (first_step by homes) d t₀ → d ≡ n → t ≡ firsts_of by homes n
unfolding firsts_of
firsts_done by homes b e f = e ∙ rw (b, f)

pub near_step_lem : (t homes : List ℕ) (actives p : ℕ) (z : List (List ℕ)) {k v : ℕ} → k ≡ get_or homes (actives + p) 0
    → v ≡ near_of (get_or t (k / 4) 0) (actives + p) → set z (k / 4) (set (get_or z (k / 4) []) p v)
    ≡ near_step t homes actives p z
unfolding near_step
near_step_lem t homes actives p z {k} e f =
    ap (λ (x : ℕ). set z (k / 4) (set (get_or z (k / 4) []) p x)) f
    ∙ ap (λ (i : ℕ). set z (i / 4) (set (get_or z (i / 4) []) p (near_of (get_or t (i / 4) 0) (actives + p)))) e

pub nears_done : (t homes : List ℕ) (actives : ℕ) {p n : ℕ} {z z₀ : List (List ℕ)} → z₀ ≡ replicate 17 (replicate 16 0)
    → z ≡ up_to (near_step t homes actives) p z₀ → p ≡ n → z ≡ nears_of t homes actives n
unfolding nears_of
nears_done t homes actives b e f = e ∙ rw (b, f)

-- ---- a loop over the first n of a table of m that are alike: its turns are below n, and its end is n
module _ {A : Type 0} (n m : ℕ) (v : A) where
  pub in_part : {k : ℕ} → n ≤ m → k < length (take n (replicate m v)) → k < n
  in_part l h = rw (length-take-le n (replicate m v) (rw (length-replicate m v) l)) at h

  pub part_end : {k : ℕ} → n ≤ m → length (take n (replicate m v)) ≤ k → k ≤ length (take n (replicate m v)) → k ≡ n
  part_end {k} l h i =
      let long = length-take-le n (replicate m v) (rw (length-replicate m v) l) in
      let past : n ≤ k = rw long at h in
      let within : k ≤ n = rw long at i in
      omega (arith, past, within)

-- ---- a turn of the loop over actives
module _ (homes arrive : List ℕ) (h : Head) (all : ℕ) (up : List (List ℕ)) where
  pub choices_none : Choices homes arrive h all up 0 (replicate 16 0)
  choices_none = record {
    long = length-replicate 16 zero;
    some = λ a l. absurd
        (omega arith);
    none = λ a l. replicate_at 16 0 a;
  }

  pub choices_start : {t : List ℕ} → t ≡ replicate 16 0 → Choices homes arrive h all up 0 t
  choices_start e = rw e choices_none

  -- the same table, written otherwise
  pub choices_put : (n : ℕ) {t u : List ℕ} → t ≡ u → Choices homes arrive h all up (n + 1) t
      → Choices homes arrive h all up (n + 1) u
  choices_put n e s = rw (← e) s

  pub choices_more : (n : ℕ) {t : List ℕ} {w : ℕ} → n < 16 → Choices homes arrive h all up n t
      → Chosen homes arrive h all up n w → Choices homes arrive h all up (n + 1) (set t n w)
  choices_more n {t} {w} l s f = record {
    long = length-set t n w ∙ s.long;
    some = λ a k. some' a k (same_or_not a n);
    none = λ a k. get_or-set_other t n a w 0 (λ e. omega arith) ∙ s.none a (omega arith);
  }
    where
      some' : (a : ℕ) → a < n + 1 → (a ≡ n) ⊎ (a ≡ n → ⊥) → Chosen homes arrive h all up a (get_or (set t n w) a 0)
      some' a k (inl e) = rw (e, get_or-set_same t n w 0 (rw s.long l)) f
      some' a k (inr e) = rw (get_or-set_other t n a w 0 e) (s.some a (omega arith))

  pub choices_done : (i n : ℕ) {t : List ℕ} → i ≡ n → Choices homes arrive h all up i t
      → Choices homes arrive h all up n t
  choices_done i n e s = rw (← e) s

-- what one active is served with, by the test made
pub chosen_plain : (homes arrive : List ℕ) (h : Head) (all : ℕ) (up : List (List ℕ)) (a : ℕ) {v : ℕ} {b : Bool}
    → v ≡ at_home homes arrive h a → b ≡ plain_of all a v → b ≡ true → Chosen homes arrive h all up a v
chosen_plain homes arrive h all up a e f g = inl (sym f ∙ g, e)

pub chosen_sifted : (homes arrive : List ℕ) (h : Head) (all : ℕ) (up : List (List ℕ)) (a : ℕ) {k v m w : ℕ}
    → v ≡ at_home homes arrive h a → k ≡ get_or homes a 0 → Lacking arrive a h.routers m → Sift up (k / 4) v m w
    → Chosen homes arrive h all up a w
chosen_sifted homes arrive h all up a {m = m} e f l s = inr (m, l, rw (e, f) at s)

-- ---- from which routers walks arrive
pub reached_below : (by : List (List ℕ)) (next : List ℕ) {n full : ℕ} {first t : List ℕ} → Idle by next n first
    → Reached by next n full first t → OnlyBelow n t
reached_below by next {n} {full} {first} {t} idle w r d l = by' (test (has (get_or t r 0) d))
  where
    by' : (has (get_or t r 0) d ≡ true) ⊎ (has (get_or t r 0) d ≡ false) → has (get_or t r 0) d ≡ false
    by' (inl q) = let s = w.sound r d q in absurd (reach_idle by next n first idle d s.0 r l s.1)
    by' (inr q) = q

-- an active's walks arrive somewhere only if its router is one of the plan's
pub home_below : (homes arrive : List ℕ) (h : Head) (a : ℕ) {k v : ℕ} → OnlyBelow h.routers arrive
    → v ≡ at_home homes arrive h a → k ≡ get_or homes a 0 → (d : ℕ) → has v d ≡ true → k / 4 < h.routers
unfolding at_home
home_below homes arrive h a {k} {v} only e f d q = by' (lt_or_ge (k / 4) h.routers)
  where
    there : has (get_or arrive (k / 4) 0) d ≡ true
    there =
        rw f
        (and_parts _ _ (sym (has_both (get_or arrive (get_or homes a 0 / 4) 0) (far_of h) d) ∙ sym
        (ap (λ (u : ℕ). has u d)
        e) ∙ q)).0

    by' : (k / 4 < h.routers) ⊎ (h.routers ≤ k / 4) → k / 4 < h.routers
    by' (inl l) = l
    by' (inr l) = absurd (true≢false (sym there ∙ only (k / 4) d l))

-- ---- all actives
module _ (by : List (List ℕ)) (joints homes arrive : List ℕ) (h : Head) (all : ℕ) where
  pub choices_serve : {up : List (List ℕ)} {n : ℕ} {t : List ℕ} → Known by joints homes arrive h up
      → Choices homes arrive h all up n t → Servings by joints homes arrive h all n t
  choices_serve {up} k s = record { long = s.long; some = λ a l. by' a (s.some a l); none = s.none }
    where
      by' : (a : ℕ) {w : ℕ} → Chosen homes arrive h all up a w → Serving by joints homes arrive h all a w
      by' a (inl e) = inl e
      by' a (inr (m, l, f)) = inr (up, m, k, l, f)

  pub plain_serve : {t : List ℕ} {b : Bool} → h.actives ≤ 16 → t ≡ at_homes homes arrive h
      → b ≡ all_below h.actives (λ a. plain_of all a (get_or t a 0)) → b ≡ true
      → Servings by joints homes arrive h all h.actives t
  unfolding at_homes
  plain_serve {t} most e f g = record {
    long = ap length e ∙ length_fill (at_home homes arrive h) h.actives (replicate 16 0) ∙ length-replicate 16 zero;
    some = λ a l. inl (
      all_at h.actives (λ i. plain_of all i (get_or t i 0)) (sym f ∙ g) a l,
      ap (λ (u : List ℕ). get_or u a 0) e ∙ fill_at (at_home homes arrive h) h.actives (replicate 16 0) a 0 l
          (rw (length-replicate 16 zero) (omega arith)),
    );
    none = λ a l. ap (λ (u : List ℕ). get_or u a 0) e
        ∙ fill_past (at_home homes arrive h) h.actives (replicate 16 0) a 0 l ∙ replicate_at 16 0 a;
  }

  -- every active is one of all
  pub all_serve : {t : List ℕ} {b m : ℕ} → h.actives ≤ 16 → b ≡ below h.actives → m ≡ less b all → m ≡ 0
      → t ≡ at_homes homes arrive h → Servings by joints homes arrive h all h.actives t
  unfolding plain_of
  all_serve {t} most e f g k =
      plain_serve most k refl
      (all_of h.actives (λ a. plain_of all a (get_or t a 0)) (λ a l. plain a l (test (has all a)) (eqb (get_or t a 0)
      0)))
    where
      plain : (a : ℕ) → a < h.actives → (has all a ≡ true) ⊎ (has all a ≡ false) → (z : Bool) → pick z true (has all
          a)
          ≡ true
      plain a l q true = refl
      plain a l (inl q) false = q
      plain a l (inr q) false =
          absurd
          (true≢false
          (sym (has_less (below h.actives) all a ∙ rw (has_below h.actives a, lt-ltb a h.actives l, q))
          ∙ ap (λ (u : ℕ). has u a) (sym (f ∙ ap (λ (u : ℕ). less u all) e) ∙ g) ∙ none_has a))

pub length_step : (z : List (List ℕ)) (arrive served homes : List ℕ) (a column far : ℕ) {k v : ℕ} {row : List ℕ}
    → k ≡ get_or homes a 0 → v ≡ both (get_or arrive (k / 4) 0) far → row ≡ length_of z (k / 4) (get_or served a 0) v
    column
    → row ≡ length_of z (get_or homes a 0 / 4) (get_or served a 0) (both (get_or arrive (get_or homes a 0 / 4) 0) far)
    column
length_step z arrive served homes a column far {k} e f g =
    g ∙ ap (λ (x : ℕ). length_of z (k / 4) (get_or served a 0) x column) f
    ∙ ap (λ (k : ℕ). length_of z (k / 4) (get_or served a 0) (both (get_or arrive (k / 4) 0) far) column) e

pub lengths_done : (z : List (List ℕ)) (arrive served homes : List ℕ) (h : Head) (a : ℕ) {far : ℕ}
    {t t₀ : List (List ℕ)} → t₀ ≡ replicate 16 (replicate 16 0) → far ≡ far_of h
    → t ≡ up_to (fill (λ i. length_of z (get_or homes i 0 / 4) (get_or served i 0)
    (both (get_or arrive (get_or homes i 0 / 4) 0) far) h.actives)) a t₀
    → a ≡ h.actives → t ≡ lengths_by z arrive served homes h
unfolding lengths_by
lengths_done z arrive served homes h a b e f g = f ∙ rw (b, e, g)
