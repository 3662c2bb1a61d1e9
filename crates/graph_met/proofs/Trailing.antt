-- The table of words grows with what is reached, and each word in it is that of a way.
use mathlib.Core.Path.{◌≡◌, refl, sym, ap, ◌∙◌}
use mathlib.Core.Logic.{◌⊎◌, inl, inr}
use mathlib.Core.Bool.{Bool, true, false, not, ◌&&◌, true≢false, false≢true}
use mathlib.Core.List.{List, []}
use Prim.Native.Nat.{ℕ, suc, ◌+◌, ◌*◌, ◌^◌, ◌≤◌, ◌<◌}
use native.Mathlib.Omega.{arith}
use lib.Dec.{eqb}
use lib.ListN.{get_or, set, length, length-set}
use lib.Pow.{pow_mono}
use lib.Seq.{get_or-set_same, get_or-set_other, set-get_or}
use borrow.Author.Tests.{eq-eqb, ne_eqb}
use Rattle.basis.specs.Choice.{test}
use Rattle.basis.specs.Bounded.{any_below, any_true, or_cases, lt_or_ge}
use Rattle.sets.specs.Sets.{has, single, both, less, lowest, rest}
use Rattle.sets.specs.Laws.{has_both, has_less, none_has, lowest_is, has_rest, rest_less}
use Rattle.graph_reach.specs.Reach.{side_set, beyond, Idle, through_of, pull_of, sweep_at, change_of}
use Rattle.graph_met.specs.Trails.{Shaped, cell, Blank, Readable, Led, Started, Trail, last, more}
use Rattle.graph_met.specs.Trails.{Tracked, Trailed, Lengthens, Room, Turned, Turns, Turning}
use Rattle.graph_reach.proofs.Sweeps.{and_parts, same_or_not, has_pull, unchanged}

-- ---- one word put into the table
abbrev put_at : List (List ℕ) → ℕ → ℕ → ℕ → List (List ℕ)
put_at up x d v = set up x (set (get_or up x []) d v)

module _ (up : List (List ℕ)) (x d v : ℕ) (shape : Shaped up) (row : x < length up) where
  here : get_or (put_at up x d v) x [] ≡ set (get_or up x []) d v
  here = get_or-set_same up x (set (get_or up x []) d v) [] row

  cell_put : d < 32 → cell (put_at up x d v) x d ≡ v
  cell_put l = rw here (get_or-set_same (get_or up x []) d v 0 (rw (shape.wide x row) l))

  cell_other : (r e : ℕ) → (r ≡ x → e ≡ d → ⊥) → cell (put_at up x d v) r e ≡ cell up r e
  cell_other r e away = by (same_or_not r x)
    where
      by : (r ≡ x) ⊎ (r ≡ x → ⊥) → cell (put_at up x d v) r e ≡ cell up r e
      by (inl q) = rw (q, here) (get_or-set_other (get_or up x []) d e v 0 (away q))
      by (inr q) = ap (λ (l : List ℕ). get_or l e 0) (get_or-set_other up x r (set (get_or up x []) d v) [] q)

  long_put : length (put_at up x d v) ≡ length up
  long_put = length-set up x (set (get_or up x []) d v)

  shaped_put : Shaped (put_at up x d v)
  shaped_put = record { wide = λ r l. wide' r (rw long_put at l) (same_or_not r x) }
    where
      wide' : (r : ℕ) → r < length up → (r ≡ x) ⊎ (r ≡ x → ⊥) → length (get_or (put_at up x d v) r []) ≡ 32
      wide' r l (inl q) = rw (q, here) (length-set (get_or up x []) d v ∙ shape.wide x row)
      wide' r l (inr q) = ap length (get_or-set_other up x r (set (get_or up x []) d v) [] q) ∙ shape.wide r l

-- ---- a set without its lowest member, as a loop over the members leaves it
module _ (left left' d : ℕ) (some : 0 < left) (small : left < 2 ^ 32) (low : d ≡ lowest left)
    (less' : left' ≡ rest left) where
  pub lowest_there : has left d ≡ true
  lowest_there = rw low (lowest_is left some (omega arith)).there

  pub others_has : (i : ℕ) → has left' i ≡ (has left i && not (eqb i d))
  others_has i = rw (less', low) (has_rest left i some (omega arith))

  pub lowest_gone : has left' d ≡ false
  lowest_gone = others_has d ∙ rw (lowest_there, eq-eqb d d refl)

  pub others_kept : (i : ℕ) → (i ≡ d → ⊥) → has left' i ≡ has left i
  others_kept i q = others_has i ∙ rw (ne_eqb i d q) (and_all (has left i))
    where
      and_all : (b : Bool) → (b && true) ≡ b
      and_all true = refl
      and_all false = refl

  pub others_small : left' < 2 ^ 32
  others_small = let a = rest_less left some in rw less' (omega arith)

-- ---- the loop over the members of a set: left are those that are still to do
pub record Leading (x n k left : ℕ) (up₀ up : List (List ℕ)) : Type 0 where
  pub long : length up ≡ length up₀
  pub shape : Shaped up
  pub small : left < 2 ^ 32
  pub within : (d : ℕ) → has left d ≡ true → has k d ≡ true
  pub same : (r d : ℕ) → (r ≡ x → has k d ≡ true → has left d ≡ false → ⊥) → cell up r d ≡ cell up₀ r d
  pub new : (d : ℕ) → has k d ≡ true → has left d ≡ false → cell up x d ≡ cell up₀ n d + single x + 65536

pub leading_none : (x n k : ℕ) {up : List (List ℕ)} → k < 2 ^ 32 → Shaped up → Leading x n k k up up
leading_none x n k l s = record {
  long = refl;
  shape = s;
  small = l;
  within = λ d q. q;
  same = λ r d f. refl;
  new = λ d p q. absurd (true≢false (sym p ∙ q));
}

-- the word of the lowest that is left is still as it was, also where n is x
pub leading_word : {x n k left d : ℕ} {up₀ up : List (List ℕ)} → 0 < left → d ≡ lowest left
    → Leading x n k left up₀ up → (has k d ≡ true) × (cell up n d ≡ cell up₀ n d)
leading_word {x} {n} {k} {left} {d} p e w =
    let l = w.small in
    let q : has left d ≡ true = rw e (lowest_is left p (omega arith)).there in
    (w.within d q, w.same n d (λ a b c. true≢false (sym q ∙ c)))

pub leading_more : {x n k left left' d v : ℕ} {up₀ up : List (List ℕ)} → x < length up₀ → 0 < left
    → d ≡ lowest left → d < 32 → left' ≡ rest left → v ≡ cell up n d + single x + 65536 → Leading x n k left up₀ up
    → Leading x n k left' up₀ (put_at up x d v)
leading_more {x} {n} {k} {left} {left'} {d} {v} {up₀} {up} lx p e ld f g w = record {
  long = long_put up x d v w.shape row ∙ w.long;
  shape = shaped_put up x d v w.shape row;
  small = others_small left left' d p w.small e f;
  within = λ i q. w.within i (and_parts (has left i) _ (sym (others_has left left' d p w.small e f i) ∙ q)).0;
  same = λ r i a. cell_other up x d v w.shape row r i
      (λ q s. a q (rw s known) (rw s (lowest_gone left left' d p w.small e f)))
      ∙ w.same r i (λ q b c. a q b (others_has left left' d p w.small e f i ∙ rw c));
  new = λ i a b. at i a b (same_or_not i d);
}
  where
    row : x < length up
    row = rw w.long lx

    there : has left d ≡ true
    there = lowest_there left left' d p w.small e f

    known : has k d ≡ true
    known = w.within d there

    at : (i : ℕ) → has k i ≡ true → has left' i ≡ false → (i ≡ d) ⊎ (i ≡ d → ⊥)
        → cell (put_at up x d v) x i ≡ cell up₀ n i + single x + 65536
    at i a b (inl q) =
        rw q
        (cell_put up x d v w.shape row ld ∙ g
        ∙ ap (λ (u : ℕ). u + single x + 65536) (w.same n d (λ _ _ c. true≢false (sym there ∙ c))))
    at i a b (inr q) =
        cell_other up x d v w.shape row x i (λ _ s. q s)
        ∙ w.new i a (sym (others_kept left left' d p w.small e f i q) ∙ b)

pub leading_end : {x n k left : ℕ} {up₀ up : List (List ℕ)} → left ≡ 0 → Leading x n k left up₀ up → Led x n k up₀ up
leading_end {x} {n} {k} {left} e w = record {
  long = w.long;
  shape = w.shape;
  same = λ r d f. w.same r d (λ q a b. f q a);
  new = λ d q. w.new d q (rw e (none_has d));
}

pub single_le : (x : ℕ) → x < 16 → single x ≤ 32768
unfolding single
single_le x l = pow_mono {i = x} {j = 15} (omega arith)

-- a set of one number below 32, however it came about
pub single_fits : (i : ℕ) {v : ℕ} → v ≡ single i → i < 32 → v ≤ 2147483648
unfolding single
single_fits i e l = let a = pow_mono {i = i} {j = 31} (omega arith) in omega arith

-- ---- ways
module _ (by : List (List ℕ)) (next first : List ℕ) where
  trail_sum : {d x m s : ℕ} → Trail by next first d x m s → s ≤ 32768 * m
  trail_sum (last x l q) = single_le x l
  trail_sum (more x o m s l h p t) = let a = trail_sum t in let b = single_le x l in omega arith

  pub tracked_le : {b d r v : ℕ} → b ≤ 600 → Tracked by next first b d r v → v ≤ 100000000
  tracked_le l w = let a = trail_sum w.trail in omega (arith, a, w.word, w.few)

  tracked_more : {b c d r v : ℕ} → b ≤ c → Tracked by next first b d r v → Tracked by next first c d r v
  tracked_more l w =
      record { count = w.count; sum = w.sum; few = omega (arith, w.few); trail = w.trail; word = w.word }

  pub trailed_more : {b c : ℕ} {t : List ℕ} {up : List (List ℕ)} → b ≤ c → Trailed by next first b t up
      → Trailed by next first c t up
  trailed_more l w =
      record { long = w.long; shape = w.shape; rows = w.rows; some = λ r d q. tracked_more l (w.some r d q) }

  -- one router more
  tracked_on : {b d x o v w : ℕ} → x < 16 → o < 4 → has (side_set by next x o) d ≡ true
      → Tracked by next first b d (beyond by next x o) w → v ≡ w + single x + 65536
      → Tracked by next first (b + 1) d x v
  tracked_on {x = x} {o = o} l h q w e = record {
    count = suc w.count;
    sum = w.sum + single x;
    few = omega (arith, w.few);
    trail = more x o w.count w.sum l h q w.trail;
    word = omega (arith, w.word);
  }

-- ---- a step
module _ (by : List (List ℕ)) (next : List ℕ) (t : List ℕ) (x new : ℕ) where
  through_has : (o d : ℕ) → has (through_of by next t x o) d
      ≡ (has (side_set by next x o) d && has (get_or t (beyond by next x o) 0) d)
  unfolding through_of
  through_has o d = has_both (side_set by next x o) (get_or t (beyond by next x o) 0) d

  through_parts : (o d : ℕ) → has (through_of by next t x o) d ≡ true
      → (has (side_set by next x o) d ≡ true) × (has (get_or t (beyond by next x o) 0) d ≡ true)
  through_parts o d q =
      and_parts (has (side_set by next x o) d) (has (get_or t (beyond by next x o) 0) d) (sym (through_has o d) ∙ q)

  new_parts : (o k d : ℕ) → k ≡ both (through_of by next t x o) new → has k d ≡ true
      → (has (through_of by next t x o) d ≡ true) × (has new d ≡ true)
  new_parts o k d f q =
      and_parts (has (through_of by next t x o) d) (has new d)
      (sym (ap (λ (u : ℕ). has u d) f ∙ has_both (through_of by next t x o) new d) ∙ q)

  module _ (first : List ℕ) (b : ℕ) where
    -- what is read on the way is there, and small
    pub turn_small : (o : ℕ) {n k : ℕ} {up : List (List ℕ)} → n ≡ beyond by next x o
        → k ≡ both (through_of by next t x o) new → b ≤ 600 → Turned by next first b t x new o up → Readable up n k
    turn_small o {n} {k} {up} e f l w d q =
        let s = through_parts o d (new_parts o k d f q).0 in
        let a = tracked_le by next first l (w.old.some (beyond by next x o) d s.1) in
        (rw e (w.old.rows (beyond by next x o) d s.1), rw e a)

    pub turn_next : (o : ℕ) {n k : ℕ} {up up' : List (List ℕ)} → x < 16 → o < 4 → n ≡ beyond by next x o
        → k ≡ both (through_of by next t x o) new → Led x n k up up' → Turned by next first b t x new o up
        → Turned by next first b t x new (o + 1) up'
    turn_next o {n} {k} {up} {up'} lx lo e f led w = record {
      old = record {
        long = w.old.long;
        shape = led.shape;
        rows = λ r d q. rw led.long (w.old.rows r d q);
        some = λ r d q. older r d q;
      };
      apart = w.apart;
      done = λ i d l a c. at i d l a c (test (has k d)) (same_or_not i o);
    }
      where
        older : (r d : ℕ) → has (get_or t r 0) d ≡ true → Tracked by next first b d r (cell up' r d)
        older r d q =
            rw (led.same r d (λ s h. true≢false (sym (rw s at q) ∙ w.apart d (new_parts o k d f h).1)))
            (w.old.some r d q)

        at : (i d : ℕ) → i < o + 1 → has (through_of by next t x i) d ≡ true → has new d ≡ true
            → (has k d ≡ true) ⊎ (has k d ≡ false) → (i ≡ o) ⊎ (i ≡ o → ⊥)
            → Tracked by next first (b + 1) d x (cell up' x d)
        at i d l a c (inl q) m =
            let s = through_parts o d (new_parts o k d f q).0 in
            tracked_on by next first lx lo s.0 (w.old.some (beyond by next x o) d s.1)
            (rw e at (led.new d q))
        at i d l a c (inr q) (inl m) =
            absurd (true≢false (sym (ap (λ (u : ℕ). has u d) f ∙ has_both (through_of by next t x o) new d
            ∙ rw (rw m at a, c)) ∙ q))
        at i d l a c (inr q) (inr m) =
            rw (led.same x d (λ s h. true≢false (sym h ∙ q))) (w.done i d (omega arith) a c)

    less_parts : (v d : ℕ) → new ≡ less v (get_or t x 0) → has new d ≡ (has v d && not (has (get_or t x 0) d))
    less_parts v d e = ap (λ (u : ℕ). has u d) e ∙ has_less v (get_or t x 0) d

    pub turn_start : (v : ℕ) {up : List (List ℕ)} → new ≡ less v (get_or t x 0) → Trailed by next first b t up
        → Turned by next first b t x new 0 up
    turn_start v e w = record {
      old = w;
      apart = λ d q. gone d (and_parts (has v d) _ (sym (less_parts v d e) ∙ q)).1 (test (has (get_or t x 0) d));
      done = λ i d l. absurd (omega arith);
    }
      where
        gone : (d : ℕ) → not (has (get_or t x 0) d) ≡ true
            → (has (get_or t x 0) d ≡ true) ⊎ (has (get_or t x 0) d ≡ false) → has (get_or t x 0) d ≡ false
        gone d q (inl a) = absurd (false≢true (rw a at q))
        gone d q (inr a) = a

    pub turn_end : {v : ℕ} {up : List (List ℕ)} → x < 16 → x < length up → v ≡ pull_of by next t x
        → new ≡ less v (get_or t x 0) → Turned by next first b t x new 4 up
        → Trailed by next first (b + 1) (set t x v) up
    turn_end {v} {up} l row f e w = record {
      long = length-set t x v ∙ w.old.long;
      shape = w.old.shape;
      rows = λ r d q. in_row r d q (same_or_not r x);
      some = λ r d q. at r d q (same_or_not r x);
    }
      where
        in_row : (r d : ℕ) → has (get_or (set t x v) r 0) d ≡ true → (r ≡ x) ⊎ (r ≡ x → ⊥) → r < length up
        in_row r d q (inl s) = rw s row
        in_row r d q (inr s) = w.old.rows r d (rw (get_or-set_other t x r v 0 s) at q)

        older : (r d : ℕ) → has (get_or t r 0) d ≡ true → Tracked by next first (b + 1) d r (cell up r d)
        older r d q = tracked_more by next first (omega arith) (w.old.some r d q)

        newer : (d : ℕ) → has v d ≡ true → (has (get_or t x 0) d ≡ true) ⊎ (has (get_or t x 0) d ≡ false)
            → (has (get_or t x 0) d ≡ true)
            ⊎ (any_below 4 (λ o. has (side_set by next x o) d && has (get_or t (beyond by next x o) 0) d) ≡ true)
            → Tracked by next first (b + 1) d x (cell up x d)
        newer d q (inl a) c = older x d a
        newer d q (inr a) (inl c) = older x d c
        newer d q (inr a) (inr c) =
            let s = any_true 4 _ c in
            w.done s.0 d s.1 (through_has s.0 d ∙ s.2) (less_parts v d e ∙ rw (q, a))

        at : (r d : ℕ) → has (get_or (set t x v) r 0) d ≡ true → (r ≡ x) ⊎ (r ≡ x → ⊥)
            → Tracked by next first (b + 1) d r (cell up r d)
        at r d q (inl s) =
            let p : has v d ≡ true =
            rw (s, get_or-set_same t x v 0 (rw w.old.long (omega arith))) at q in
            rw s
            (newer d p (test (has (get_or t x 0) d))
            (or_cases _ _ (sym (has_pull by next t x d) ∙ sym (ap (λ (u : ℕ). has u d) f) ∙ p)))
        at r d q (inr s) = older r d (rw (get_or-set_other t x r v 0 s) at q)

-- the sides one after another
pub turning_start : (by : List (List ℕ)) (next t : List ℕ) (x new v : ℕ) {up : List (List ℕ)}
    → Room by next 1 t up → new ≡ less v (get_or t x 0) → Turning by next t x new 0 up
turning_start by next t x new v (first, b, l, w) e =
    (first, b, omega arith, turn_start by next t x new first b v e w)

pub turning_on : (by : List (List ℕ)) (next t : List ℕ) (x new o : ℕ) {up up' : List (List ℕ)}
    → Turning by next t x new 0 up → Turns by next t x new 0 up o up' → Turning by next t x new o up'
turning_on by next t x new o (first, b, l, w) f = (first, b, l, f first b w)

pub turns_done : (by : List (List ℕ)) (next t : List ℕ) (x new : ℕ) {i n : ℕ} {up up' : List (List ℕ)} → i ≡ n
    → Turns by next t x new 0 up i up' → Turns by next t x new 0 up n up'
turns_done by next t x new e f = rw (← e) f

-- what a step leaves where nothing is new, and else
pub stepped_none : (by : List (List ℕ)) (next t : List ℕ) (up : List (List ℕ)) (x : ℕ) {v new : ℕ}
    → v ≡ pull_of by next t x → new ≡ less v (get_or t x 0) → new ≡ 0
    → (t ≡ sweep_at by next x t) × (new ≡ change_of by next t x) × Lengthens by next 1 t up t up
unfolding sweep_at change_of
stepped_none by next t up x {v} {new} e f g =
    let change : new ≡ less (pull_of by next t x) (get_or t x 0) = f ∙ ap (λ (u : ℕ). less u (get_or t x 0)) e in (
      sym (ap (set t x) (unchanged by next t t x (sym change ∙ g)) ∙ set-get_or t x 0),
      change,
      λ first b w. trailed_more by next first (omega arith) w,
    )

pub stepped_new : (by : List (List ℕ)) (next t : List ℕ) (up up' : List (List ℕ)) (x : ℕ) {v new : ℕ} → x < 16
    → x < length up' → v ≡ pull_of by next t x → new ≡ less v (get_or t x 0) → Turns by next t x new 0 up 4 up'
    → (set t x v ≡ sweep_at by next x t) × (new ≡ change_of by next t x) × Lengthens by next 1 t up (set t x v) up'
unfolding sweep_at change_of
stepped_new by next t up up' x {v} {new} l row e f g = (
  ap (set t x) e,
  f ∙ ap (λ (u : ℕ). less u (get_or t x 0)) e,
  λ first b w. turn_end by next t x new first b l row e f (g first b (turn_start by next t x new first b v f w)),
)

-- ---- steps one after another
pub lengthens_none : (by : List (List ℕ)) (next t : List ℕ) (up : List (List ℕ)) → Lengthens by next 0 t up t up
lengthens_none by next t up = λ first b w. trailed_more by next first (omega arith) w

pub lengthens_on : (by : List (List ℕ)) (next : List ℕ) (j k : ℕ) {t u v : List ℕ} {p q r : List (List ℕ)}
    → Lengthens by next j t p u q → Lengthens by next k u q v r → Lengthens by next (j + k) t p v r
lengthens_on by next j k f g = λ first b w. trailed_more by next first (omega arith) (g first (b + j) (f first b w))

pub lengthens_done : (by : List (List ℕ)) (next : List ℕ) (i n : ℕ) {t u : List ℕ} {p q : List (List ℕ)} → i ≡ n
    → Lengthens by next i t p u q → Lengthens by next n t p u q
lengthens_done by next i n e f = rw (← e) f

pub room_of : (by : List (List ℕ)) (next first : List ℕ) (n : ℕ) {b : ℕ} {t : List ℕ} {up : List (List ℕ)}
    → Trailed by next first b t up → b + n ≤ 600 → Room by next n t up
room_of by next first n {b} w l = (first, b, l, w)

pub room_on : (by : List (List ℕ)) (next : List ℕ) (n j k : ℕ) {t u : List ℕ} {p q : List (List ℕ)} → j + k ≤ n
    → Room by next n t p → Lengthens by next j t p u q → Room by next k u q
room_on by next n j k l (first, b, m, w) f = (first, b + j, omega arith, f first b w)

-- ---- the walks of one router
pub started_none : (t : List ℕ) {up : List (List ℕ)} → Blank up → Started 0 t up
started_none t w = record { shape = w.shape; some = λ r d l. absurd (omega arith); none = λ r d l. w.none r d }

pub started_more : (x : ℕ) {t : List ℕ} {up up' : List (List ℕ)} → Started x t up
    → Led x x (get_or t x 0) up up' → Started (x + 1) t up'
started_more x {t} {up} {up'} w led = record {
  shape = led.shape;
  some = λ r d m q. at r d m q (same_or_not r x);
  none = λ r d m. led.same r d (λ s h. omega arith) ∙ w.none r d (omega arith);
}
  where
    at : (r d : ℕ) → r < x + 1 → has (get_or t r 0) d ≡ true → (r ≡ x) ⊎ (r ≡ x → ⊥) → cell up' r d
        ≡ single r + 65536
    at r d m q (inl s) =
        let e : cell up x d ≡ 0 = w.none x d (omega arith) in
        let f = led.new d (rw s at q) in
        rw s (omega arith)
    at r d m q (inr s) = led.same r d (λ e h. s e) ∙ w.some r d (omega arith) q

pub started_done : {i n : ℕ} {t : List ℕ} {up : List (List ℕ)} → i ≡ n → Started i t up → Started n t up
started_done e w = rw (← e) w

pub started_trailed : (by : List (List ℕ)) (next : List ℕ) (n : ℕ) {t : List ℕ} {up : List (List ℕ)} → n ≤ 16
    → n ≤ length up → Idle by next n t → length t ≡ 32 → Started n t up → Trailed by next t 1 t up
started_trailed by next n {t} {up} l rows idle long w = record {
  long = long;
  shape = w.shape;
  rows = λ r d q. row r d q (lt_or_ge r n);
  some = λ r d q. at r d q (lt_or_ge r n);
}
  where
    row : (r d : ℕ) → has (get_or t r 0) d ≡ true → (r < n) ⊎ (n ≤ r) → r < length up
    row r d q (inl h) = omega arith
    row r d q (inr h) = absurd (true≢false (sym q ∙ idle.here r d h))

    at : (r d : ℕ) → has (get_or t r 0) d ≡ true → (r < n) ⊎ (n ≤ r) → Tracked by next t 1 d r (cell up r d)
    at r d q (inl h) = record {
      count = 1;
      sum = single r;
      few = omega arith;
      trail = last r (omega arith) q;
      word = w.some r d h q;
    }
    at r d q (inr h) = absurd (true≢false (sym q ∙ idle.here r d h))
