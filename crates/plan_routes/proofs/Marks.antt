-- Rows that are read up to eight columns at a time, in one word with a lane for each side, and then put into sets by
-- side: what the word and the sets hold, and whether each column has a side or none.
use mathlib.Core.Path.{◌≡◌, refl, sym, ap, ◌∙◌}
use mathlib.Core.Logic.{◌⊎◌, inl, inr}
use mathlib.Core.Bool.{Bool, true, false, ◌&&◌, ◌||◌, true≢false, false≢true}
use mathlib.Core.List.{List, [], ◌∷◌}
use Prim.Native.Nat.{ℕ, zero, suc, ◌+◌, ◌-◌, ◌*◌, ◌/◌, ◌%◌, ◌^◌, ◌≤◌, ◌<◌}
use native.Mathlib.Nat.{mod-lt, add-zero, zero-add, add_assoc, mul-mod_left}
use native.Mathlib.Omega.{arith}
use lib.Dec.{eqb, ltb}
use lib.ListN.{get_or, set, length, replicate}
use lib.Seq.{ext_get_or}
use lib.Pow.{pow_pos, pow_mono, shl-shr, shr-shr}
use lib.Bits.{or_zero_l}
use borrow.Author.Tests.{eqb-true, eq-eqb, ne_eqb, lt-ltb, le-ltb, ltb-true}
use Rattle.basis.specs.Choice.{same_test, refuted, affirmed}
use Rattle.basis.specs.Bounded.{all_below, all_none, all_at, all_of, lt_or_ge}
use Rattle.basis.specs.Fold.{up_to, fill, up_none, up_more, up_same, fill_at, length_fill}
use Rattle.sets.specs.Sets.{has, single, either, those}
use Rattle.sets.specs.Laws.{has_either, has_single, has_cut, has_past, none_has, no_member, same_set, either_lt}
use Rattle.sets.specs.Laws.{those_below, has_those}
use Rattle.fields.specs.Bits.{field_of}
use Rattle.fields.specs.Laws.{field_lt}
use Rattle.plan.specs.Rules.{route_ok}
use Rattle.plan_routes.specs.Sides.{side_set, sides_in}
use Rattle.plan_routes.specs.Marks.{side_at, Put, PutIf, Group, lane_of, Laid, fits_of, Row}

-- ---- truth
or_none : (b : Bool) → (b || false) ≡ b
or_none true = refl
or_none false = refl

same_or_not : (r x : ℕ) → (r ≡ x) ⊎ (r ≡ x → ⊥)
same_or_not r x = by (lt_or_ge r x) (lt_or_ge x r)
  where
    by : (r < x) ⊎ (x ≤ r) → (x < r) ⊎ (r ≤ x) → (r ≡ x) ⊎ (r ≡ x → ⊥)
    by (inl l) m = inr (λ e. omega arith)
    by (inr l) (inl m) = inr (λ e. omega arith)
    by (inr l) (inr m) = inl (omega arith)

-- two tests below bounds that move together
ltb_alike : (i k j m : ℕ) → (i < k → j < m) → (j < m → i < k) → ltb i k ≡ ltb j m
ltb_alike i k j m f g =
    same_test (ltb i k) (ltb j m) (λ e. lt-ltb j m (f (ltb-true i k e))) (λ e. lt-ltb i k (g (ltb-true j m e)))

-- ---- the side of a column
pub side_small : (b : List ℕ) (at d : ℕ) → side_at b at d < 8
unfolding side_at
side_small b at d = field_lt b (at + 3 * d) 3

pub side_of : (b : List ℕ) (at d : ℕ) {v : ℕ} → v ≡ field_of b (at + 3 * d) 3 → v ≡ side_at b at d
unfolding side_at
side_of b at d e = e

-- the side of a column that begins behind the first bit of a byte
pub side_near : (b : List ℕ) (at d i k : ℕ) → 8 * i ≡ at + 3 * d → field_of b (8 * i + 3 * k) 3 ≡ side_at b at (d + k)
unfolding side_at
side_near b at d i k e =
    let p : 8 * i + 3 * k ≡ at + 3 * (d + k) = omega arith in
    ap (λ (x : ℕ). field_of b x 3) p

-- the first column that begins at a byte's first bit
pub lead_ends : (at : ℕ) → (at + 3 * (5 * (at % 8) % 8)) % 8 ≡ 0
lead_ends at =
    let e : at + 3 * (5 * (at % 8) % 8) ≡ 8 * (at / 8 + 2 * (at % 8) - 3 * (5 * (at % 8) / 8)) = omega arith in
    omega arith

-- ---- the sets by side
module _ (side : ℕ → ℕ) (n : ℕ) where
  set_lt : (o : ℕ) → n ≤ 32 → side_set side n o < 2 ^ 32
  set_lt o l =
      let a = those_below n (λ d. eqb (side d) o) in let b = pow_mono {i = n} {j = 32} l in omega arith

  pub set_has : (o d : ℕ) → has (side_set side n o) d ≡ (ltb d n && eqb (side d) o)
  set_has o d = by (lt_or_ge d n)
    where
      by : (d < n) ⊎ (n ≤ d) → has (side_set side n o) d ≡ (ltb d n && eqb (side d) o)
      by (inl l) = has_those n (λ i. eqb (side i) o) d l ∙ rw (lt-ltb d n l)
      by (inr l) = has_past n (side_set side n o) d (those_below n (λ i. eqb (side i) o)) l ∙ rw (le-ltb d n l)

  pub side_at_lem : (o : ℕ) → o < 4 → get_or (sides_in side n) o 0 ≡ side_set side n o
  unfolding sides_in
  side_at_lem o l = fill_at (side_set side n) 4 (replicate 4 0) o 0 l (omega arith)

  sides_are : {sides : List ℕ} → length sides ≡ 4 → ((o : ℕ) → o < 4 → get_or sides o 0 ≡ side_set side n o)
      → sides ≡ sides_in side n
  unfolding sides_in
  sides_are {sides} four at =
      ext_get_or 0 sides (sides_in side n) (four ∙ sym (length_fill (side_set side n) 4 (replicate 4 0)))
      (λ o l. at o (omega arith) ∙ sym (side_at_lem o (omega arith)))

-- routers that give the same sides have the same sets
pub sides_same : (side other : ℕ → ℕ) (n : ℕ) → ((d : ℕ) → d < n → side d ≡ other d)
    → sides_in side n ≡ sides_in other n
unfolding sides_in
sides_same side other n e =
    up_same (fill (side_set side n)) (fill (side_set other n)) 4 (replicate 4 0) (λ o t l. ap (set t o) (same o))
  where
    same : (o : ℕ) → side_set side n o ≡ side_set other n o
    same o =
        same_set n (side_set side n o) (side_set other n o) (those_below n (λ d. eqb (side d) o))
        (those_below n (λ d. eqb (other d) o))
        (λ d l. set_has side n o d ∙ rw (e d l) (sym (set_has other n o d)))

-- ---- members of a set that is shifted
has_down : (s k i : ℕ) → has (s / 2 ^ k) i ≡ has s (k + i)
unfolding has
has_down s k i = ap (λ (x : ℕ). eqb (x % 2) 1) (shr-shr s k i)

has_up : (s d i : ℕ) → has (s * 2 ^ d) (d + i) ≡ has s i
has_up s d i = sym (has_down (s * 2 ^ d) d i) ∙ ap (λ (x : ℕ). has x i) (shl-shr s d)

has_under : (s d i : ℕ) → i < d → has (s * 2 ^ d) i ≡ false
has_under s d i l = sym (has_cut d (s * 2 ^ d) i l) ∙ ap (λ (x : ℕ). has x i) (mul-mod_left s (2 ^ d)) ∙ none_has i

-- a lane is a set of columns below 32
lane_lt : (s o d : ℕ) → lane_of s o d < 2 ^ 32
unfolding lane_of
lane_lt s o d = mod-lt (s / 2 ^ (8 * o) % 2 ^ 8 * 2 ^ d % 2 ^ 64) (pow_pos 32)

-- its members are columns from d on
module _ (s o d : ℕ) (few : d ≤ 32) where
  abbrev members : ℕ
  members = s / 2 ^ (8 * o) % 2 ^ 8

  cut : (i : ℕ) → i < 32 → has (lane_of s o d) i ≡ has (members * 2 ^ d) i
  unfolding lane_of
  cut i l = has_cut 32 (members * 2 ^ d % 2 ^ 64) i l ∙ has_cut 64 (members * 2 ^ d) i (omega arith)

  lane_under : (i : ℕ) → i < d → has (lane_of s o d) i ≡ false
  lane_under i l = cut i (omega arith) ∙ has_under members d i l

  lane_at : (k : ℕ) → d + k < 32 → has (lane_of s o d) (d + k) ≡ has members k
  lane_at k l = cut (d + k) l ∙ has_up members d k

  lane_has : (k : ℕ) → k < 8 → d + k < 32 → has (lane_of s o d) (d + k) ≡ has s (8 * o + k)
  lane_has k l r = lane_at k r ∙ has_cut 8 (s / 2 ^ (8 * o)) k l ∙ has_down s (8 * o) k

  lane_over : (k : ℕ) → 8 ≤ k → d + k < 32 → has (lane_of s o d) (d + k) ≡ false
  lane_over k l r = lane_at k r ∙ has_past 8 members k (mod-lt (s / 2 ^ (8 * o)) (pow_pos 8)) l

-- ---- lanes 4, 5 and 6
fits_none : (s : ℕ) → fits_of s ≡ true → (j : ℕ) → j < 24 → has s (32 + j) ≡ false
unfolding fits_of
fits_none s e j l =
    sym (has_down s 32 j) ∙ sym (has_cut 24 (s / 2 ^ 32) j l)
    ∙ ap (λ (x : ℕ). has x j) (eqb-true (s / 2 ^ 32 % 2 ^ 24) 0 e) ∙ none_has j

none_fits : (s : ℕ) → ((j : ℕ) → j < 24 → has s (32 + j) ≡ false) → fits_of s ≡ true
unfolding fits_of
none_fits s f =
    eq-eqb (s / 2 ^ 32 % 2 ^ 24) 0
    (no_member 24 (s / 2 ^ 32 % 2 ^ 24) (mod-lt (s / 2 ^ 32) (pow_pos 24))
    (λ j l. has_cut 24 (s / 2 ^ 32) j l ∙ has_down s 32 j ∙ f j l))

odd_route : (v : ℕ) → v < 8 → route_ok v ≡ false → (4 ≤ v) × (v < 7)
unfolding route_ok
odd_route v l e = by (lt_or_ge v 4) (same_or_not v 7)
  where
    by : (v < 4) ⊎ (4 ≤ v) → (v ≡ 7) ⊎ (v ≡ 7 → ⊥) → (4 ≤ v) × (v < 7)
    by (inl a) c = absurd (true≢false (rw (lt-ltb v 4 a) at e))
    by (inr a) (inl c) = absurd (true≢false (rw (le-ltb v 4 a, eq-eqb v 7 c) at e))
    by (inr a) (inr c) = (a, omega arith)

fit_route : (v : ℕ) → route_ok v ≡ true → 4 ≤ v → v < 7 → ⊥
unfolding route_ok
fit_route v e a b = false≢true (rw (le-ltb v 4 a, ne_eqb v 7 (λ q. omega arith)) at e)

module _ (g : ℕ → ℕ) where
  -- ---- a group of columns, one after the other
  pub group_none : (d : ℕ) (row : List ℕ) → Group g d 0 row row 0
  group_none d row = record {
    filled = λ first e. rw (add-zero d) e;
    lanes = λ o k l. none_has (8 * o + k) ∙ rw (le-ltb k 0 (omega arith));
  }

  pub group_more : (d m : ℕ) {first row row' : List ℕ} {s s' v : ℕ} → Group g d m first row s → m < 8 → v ≡ g (d + m)
      → Put v d m row row' s s' → Group g d (m + 1) first row' s'
  group_more d m {first} {row} {row'} {s} {s'} {v} w l e (er, es) = record {
    filled = λ t q. rw (← add_assoc d m 1) (up_more (fill g) t (d + m) (w.filled t q) (er ∙ ap (set row (d + m)) e));
    lanes = λ o k r.
        ap (λ (x : ℕ). has x (8 * o + k)) es
        ∙ has_either s (single (8 * v + m)) (8 * o + k)
        ∙ rw (w.lanes o k r, has_single (8 * v + m) (8 * o + k)) (by o k r (same_or_not k m) (same_or_not v o));
  }
    where
      by : (o k : ℕ) → k < 8 → (k ≡ m) ⊎ (k ≡ m → ⊥) → (v ≡ o) ⊎ (v ≡ o → ⊥)
          → ((ltb k m && eqb (g (d + k)) o) || eqb (8 * o + k) (8 * v + m)) ≡ (ltb k (m + 1) && eqb (g (d + k)) o)
      by o k r (inl a) (inl b) =
          let here : eqb (g (d + k)) o ≡ true = eq-eqb (g (d + k)) o (ap (λ (x : ℕ). g (d + x)) a ∙ sym e ∙ b) in
          rw (
            le-ltb k m (omega arith),
            eq-eqb (8 * o + k) (8 * v + m) (omega arith),
            lt-ltb k (m + 1) (omega arith),
            here,
          )
      by o k r (inl a) (inr b) =
          let other : eqb (g (d + k)) o ≡ false =
          ne_eqb (g (d + k)) o (λ t. b (e ∙ ap (λ (x : ℕ). g (d + x)) (sym a) ∙ t)) in
          rw (
            le-ltb k m (omega arith),
            ne_eqb (8 * o + k) (8 * v + m) (λ t. b (omega arith)),
            lt-ltb k (m + 1) (omega arith),
            other,
          )
      by o k r (inr a) b =
          rw (
            ne_eqb (8 * o + k) (8 * v + m) (λ t. a (omega arith)),
            ltb_alike k (m + 1) k m (λ t. omega arith) (λ t. omega arith),
          )
          (or_none (ltb k m && eqb (g (d + k)) o))

  -- ---- the first k of m columns, all m where k is past them
  pub record Begun (d k m : ℕ) (first row : List ℕ) (s : ℕ) : Type 0 where
    pub some : k ≤ m → Group g d k first row s
    pub all : m ≤ k → Group g d m first row s

  pub begun_none : (d m : ℕ) (row : List ℕ) → Begun d 0 m row row 0
  begun_none d m row = record {
    some = λ l. group_none d row;
    all = λ l. let e : m ≡ 0 = omega arith in rw e (group_none d row);
  }

  pub begun_more : (d k m : ℕ) {first row row' : List ℕ} {s s' v : ℕ} → Begun d k m first row s → k < 8
      → (k < m → v ≡ g (d + k)) → PutIf v d k m row row' s s' → Begun d (k + 1) m first row' s'
  begun_more d k m {first} {row} {row'} {s} {s'} {v} w l e p = record {
    some = λ r. next (omega arith);
    all = λ r. by r (lt_or_ge k m);
  }
    where
      next : k < m → Group g d (k + 1) first row' s'
      next r = group_more d k (w.some (omega arith)) l (e r) (p.there r)

      by : m ≤ k + 1 → (k < m) ⊎ (m ≤ k) → Group g d m first row' s'
      by r (inl a) = let last : m ≡ k + 1 = omega arith in rw last (next a)
      by r (inr a) = rw ((p.past a).0, (p.past a).1) (w.all a)

  -- ---- a group is laid to the row
  module _ (small : (i : ℕ) → g i < 8) (d m : ℕ) (room : d + m ≤ 32) (eight : m ≤ 8) where
    side_more : (o s : ℕ) → ((k : ℕ) → k < 8 → has s (8 * o + k) ≡ (ltb k m && eqb (g (d + k)) o))
        → either (side_set g d o) (lane_of s o d) ≡ side_set g (d + m) o
    side_more o s lanes =
        same_set 32 (either (side_set g d o) (lane_of s o d)) (side_set g (d + m) o)
        (either_lt 32 (side_set g d o) (lane_of s o d) (set_lt g d o (omega arith)) (lane_lt s o d))
        (set_lt g (d + m) o room)
        (λ i l. has_either (side_set g d o) (lane_of s o d) i
        ∙ rw (set_has g d o i, set_has g (d + m) o i) (by i l (lt_or_ge i d) (lt_or_ge (i - d) 8)))
      where
        by : (i : ℕ) → i < 32 → (i < d) ⊎ (d ≤ i) → (i - d < 8) ⊎ (8 ≤ i - d)
            → ((ltb i d && eqb (g i) o) || has (lane_of s o d) i) ≡ (ltb i (d + m) && eqb (g i) o)
        by i b (inl a) c =
            rw (lt-ltb i d a, lane_under s o d (omega arith) i a, lt-ltb i (d + m) (omega arith))
            (or_none (eqb (g i) o))
        by i b (inr a) (inl c) =
            let here : d + (i - d) ≡ i = omega arith in
            let at : has (lane_of s o d) i ≡ (ltb (i - d) m && eqb (g i) o) =
            rw here at (lane_has s o d (omega arith) (i - d) c (omega arith) ∙ lanes (i - d) c) in
            rw (le-ltb i d a, at, ltb_alike (i - d) m i (d + m) (λ t. omega arith) (λ t. omega arith))
        by i b (inr a) (inr c) =
            let here : d + (i - d) ≡ i = omega arith in
            let at : has (lane_of s o d) i ≡ false =
            rw here at (lane_over s o d (omega arith) (i - d) c (omega arith)) in
            rw (le-ltb i d a, at, le-ltb i (d + m) (omega arith))

    module _ (a : ℕ) {first row row' sides : List ℕ} {s : ℕ} (w : Row g d first row sides (fits_of a))
        (new : Group g d m row row' s) where
      abbrev ok : ℕ → Bool
      ok i = route_ok (g i)

      -- lanes 4, 5 and 6 are empty before, and of the group
      apart : fits_of (either a s) ≡ true → (fits_of a ≡ true) × (fits_of s ≡ true)
      apart q = (none_fits a (λ j l. (parts j l).0), none_fits s (λ j l. (parts j l).1))
        where
          neither : (x y : Bool) → (x || y) ≡ false → (x ≡ false) × (y ≡ false)
          neither true y e = absurd (true≢false e)
          neither false y e = (refl, e)

          parts : (j : ℕ) → j < 24 → (has a (32 + j) ≡ false) × (has s (32 + j) ≡ false)
          parts j l = neither (has a (32 + j)) (has s (32 + j))
              (sym (has_either a s (32 + j)) ∙ fits_none (either a s) q j l)

      to : fits_of (either a s) ≡ true → all_below (d + m) ok ≡ true
      to q = all_of (d + m) ok (λ i l. at i l (lt_or_ge i d))
        where
          at : (i : ℕ) → i < d + m → (i < d) ⊎ (d ≤ i) → ok i ≡ true
          at i l (inl r) = all_at d ok (sym w.fit ∙ (apart q).0) i r
          at i l (inr r) = affirmed (ok i) (λ e.
              let odd = odd_route (g i) (small i) e in
              let here : d + (i - d) ≡ i = omega arith in
              let place : 32 + (8 * (g i - 4) + (i - d)) ≡ 8 * g i + (i - d) = omega arith in
              let there : has s (8 * g i + (i - d)) ≡ true =
              new.lanes (g i) (i - d) (omega arith)
              ∙ rw (lt-ltb (i - d) m (omega arith), here) (eq-eqb (g i) (g i) refl) in
              let none = fits_none s (apart q).1 (8 * (g i - 4) + (i - d)) (omega arith) in
              true≢false (sym there ∙ rw place at none))

      from : all_below (d + m) ok ≡ true → fits_of (either a s) ≡ true
      from q = none_fits (either a s) (λ j l. has_either a s (32 + j) ∙ rw (before j l, group j l))
        where
          before : (j : ℕ) → j < 24 → has a (32 + j) ≡ false
          before j l = fits_none a (w.fit ∙ all_of d ok (λ i r. all_at (d + m) ok q i (omega arith))) j l

          group : (j : ℕ) → j < 24 → has s (32 + j) ≡ false
          group j l =
              let place : 8 * (4 + j / 8) + j % 8 ≡ 32 + j = omega arith in
              rw place at (new.lanes (4 + j / 8) (j % 8) (omega arith) ∙ none (lt_or_ge (j % 8) m))
            where
              none : (j % 8 < m) ⊎ (m ≤ j % 8) → (ltb (j % 8) m && eqb (g (d + j % 8)) (4 + j / 8)) ≡ false
              none (inr c) = rw (le-ltb (j % 8) m c)
              none (inl c) =
                  rw (lt-ltb (j % 8) m c)
                  (refuted (eqb (g (d + j % 8)) (4 + j / 8))
                  (λ t. let v = eqb-true (g (d + j % 8)) (4 + j / 8) t in
                  fit_route (g (d + j % 8)) (all_at (d + m) ok q (d + j % 8) (omega arith)) (omega arith)
                  (omega arith)))

      pub row_more : {sides' : List ℕ} → Laid s d sides sides' → Row g (d + m) first row' sides' (fits_of (either a s))
      row_more laid = record {
        filled = new.filled first w.filled;
        sets = sides_are g (d + m) laid.four
            (λ o l. laid.sets o l
            ∙ ap (λ (x : List ℕ). either (get_or x o 0) (lane_of s o d)) w.sets
            ∙ ap (λ (x : ℕ). either x (lane_of s o d)) (side_at_lem g d o l)
            ∙ side_more o s (λ k r. new.lanes o k r));
        fit = same_test (fits_of (either a s)) (all_below (d + m) ok) to from;
      }

  -- the first group of a row
  pub row_first : ((i : ℕ) → g i < 8) → (m : ℕ) {row row' sides sides' : List ℕ} {s : ℕ} → m ≤ 8 → sides ≡ replicate 4 0
      → Group g 0 m row row' s → Laid s 0 sides sides' → Row g m row row' sides' (fits_of s)
  unfolding either up_to those sides_in
  row_first small m {row} {row'} {sides} {sides'} {s} l w new laid =
      rw (zero-add m, or_zero_l s) at (row_more small 0 m (omega arith) l 0 before new laid)
    where
      before : Row g 0 row row sides (fits_of 0)
      before = record {
        filled = up_none (fill g) row;
        sets = w;
        fit = none_fits 0 (λ j r. none_has (32 + j)) ∙ sym (all_none (λ i. route_ok (g i)));
      }

-- ---- the four sides
pub laid : (s d : ℕ) (l : List ℕ) → length l ≡ 4 → {a b c e : ℕ} → a ≡ either (get_or l 0 0) (lane_of s 0 d)
    → b ≡ either (get_or (set l 0 a) 1 0) (lane_of s 1 d) → c ≡ either (get_or (set (set l 0 a) 1 b) 2 0)
    (lane_of s 2 d)
    → e ≡ either (get_or (set (set (set l 0 a) 1 b) 2 c) 3 0) (lane_of s 3 d)
    → Laid s d l (set (set (set (set l 0 a) 1 b) 2 c) 3 e)
laid s d [] h p q r t = absurd (omega arith)
laid s d (w ∷ []) h p q r t = absurd (omega arith)
laid s d (w ∷ x ∷ []) h p q r t = absurd (omega arith)
laid s d (w ∷ x ∷ y ∷ []) h p q r t = absurd (omega arith)
laid s d (w ∷ x ∷ y ∷ z ∷ v ∷ l) h p q r t = absurd (omega arith)
laid s d (w ∷ x ∷ y ∷ z ∷ []) h {a} {b} {c} {e} p q r t = record { four = refl; sets = at }
  where
    at : (o : ℕ) → o < 4
        → get_or (a ∷ b ∷ c ∷ e ∷ []) o 0 ≡ either (get_or (w ∷ x ∷ y ∷ z ∷ []) o 0) (lane_of s o d)
    at zero k = p
    at (suc zero) k = q
    at (suc (suc zero)) k = r
    at (suc (suc (suc zero))) k = t
    at (suc (suc (suc (suc o)))) k = absurd (omega arith)
