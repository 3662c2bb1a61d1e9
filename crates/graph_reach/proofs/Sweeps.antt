-- Sweeps find what is reached and nothing else.
use mathlib.Core.Path.{◌≡◌, refl, sym, ap, ◌∙◌}
use mathlib.Core.Logic.{◌⊎◌, inl, inr}
use mathlib.Core.Bool.{Bool, true, false, ◌&&◌, ◌||◌, true≢false, false≢true}
use mathlib.Core.List.{List}
use Prim.Native.Nat.{ℕ, zero, suc, ◌+◌, ◌-◌, ◌≤◌, ◌<◌}
use native.Mathlib.Omega.{arith}
use lib.ListN.{get_or, set, length, length-set}
use lib.Seq.{get_or-set_same, get_or-set_other, set-get_or}
use Rattle.basis.specs.Bounded.{any_below, any_true, any_of, or_cases, or_right, below_suc, lt_or_ge}
use Rattle.basis.specs.Fold.{up_to, up_none, up_more, up_done, up_keeps, up_keeps_at}
use lib.Bits.{bit_or, or_add_and, and_le_l, and_le_r}
use Rattle.sets.specs.Sets.{has, either, less}
use Rattle.sets.specs.Laws.{has_both, has_either, either_grows}
use Rattle.graph_reach.specs.Reach.{side_set, beyond, reach_in, Idle, through_of, pull_of, sweep_at, change_of, up_of}
use Rattle.graph_reach.specs.Reach.{down_of}
use Rattle.graph_reach.specs.Reach.{Closed, Reached, common_of}

-- ---- truth tables
or_order : (h a b c d : Bool) → ((h || (a || b)) || (c || d)) ≡ (h || (d || (c || (b || (a || false)))))
or_order true a b c d = refl
or_order false true b true true = refl
or_order false true b true false = refl
or_order false true b false true = refl
or_order false true true false false = refl
or_order false true false false false = refl
or_order false false true c true = refl
or_order false false true true false = refl
or_order false false true false false = refl
or_order false false false true true = refl
or_order false false false true false = refl
or_order false false false false true = refl
or_order false false false false false = refl

pub and_parts : (a b : Bool) → (a && b) ≡ true → (a ≡ true) × (b ≡ true)
and_parts true b e = (refl, e)
and_parts false b e = absurd (false≢true e)

or_left : (a b : Bool) → a ≡ true → (a || b) ≡ true
or_left a b e = rw e

or_later : (a b : Bool) → b ≡ true → (a || b) ≡ true
or_later a b e = rw e (or_right a)

pub same_or_not : (r x : ℕ) → (r ≡ x) ⊎ (r ≡ x → ⊥)
same_or_not r x = by (lt_or_ge r x) (lt_or_ge x r)
  where
    by : (r < x) ⊎ (x ≤ r) → (x < r) ⊎ (r ≤ x) → (r ≡ x) ⊎ (r ≡ x → ⊥)
    by (inl l) m = inr (λ e. omega arith)
    by (inr l) (inl m) = inr (λ e. omega arith)
    by (inr l) (inr m) = inl (omega arith)

module _ (by : List (List ℕ)) (next : List ℕ) where
  -- ---- what a pull has
  pub has_pull : (t : List ℕ) (x d : ℕ)
      → has (pull_of by next t x) d
      ≡ (has (get_or t x 0) d || any_below 4 (λ o. has (side_set by next x o) d && has (get_or t (beyond by next x o) 0)
      d))
  unfolding pull_of through_of any_below
  has_pull t x d = five (get_or t x 0) (through_of by next t x 0) (through_of by next t x 1) (through_of by next t x 2)
      (through_of by next t x 3) (q 0) (q 1) (q 2) (q 3)
    where
      f : ℕ → Bool
      f o = has (side_set by next x o) d && has (get_or t (beyond by next x o) 0) d

      q : (o : ℕ) → has (through_of by next t x o) d ≡ f o
      q o = has_both (side_set by next x o) (get_or t (beyond by next x o) 0) d

      five : (h a b c e : ℕ) → has a d ≡ f 0 → has b d ≡ f 1 → has c d ≡ f 2 → has e d ≡ f 3
          → has (either (either h (either a b)) (either c e)) d
          ≡ (has h d || (f 3 || (f 2 || (f 1 || (f 0 || false)))))
      five h a b c e p0 p1 p2 p3 =
          rw (
            has_either (either h (either a b)) (either c e) d,
            has_either h
                (either a b) d,
            has_either a b d,
            has_either c e d,
            p0,
            p1,
            p2,
            p3,
          )
          (or_order (has h d) (f 0) (f 1) (f 2) (f 3))

  pub pull_own : (t : List ℕ) (x d : ℕ) → has (get_or t x 0) d ≡ true → has (pull_of by next t x) d ≡ true
  pull_own t x d e = has_pull t x d ∙ or_left _ _ e

  pub pull_through : (t : List ℕ) (x d o : ℕ) → o < 4 → has (side_set by next x o) d ≡ true
      → has (get_or t (beyond by next x o) 0) d ≡ true → has (pull_of by next t x) d ≡ true
  pull_through t x d o l p q =
      has_pull t x d ∙ or_later (has (get_or t x 0) d) _ (any_of 4
      (λ i. has (side_set by next x i) d && has (get_or t (beyond by next x i) 0) d) o l (rw (p, q)))

  -- ---- what is reached
  pub reach_here : (first : List ℕ) (d k r : ℕ) → has (get_or first r 0) d ≡ true → reach_in by next first d k r ≡ true
  unfolding reach_in
  reach_here first d zero r e = e
  reach_here first d (suc k) r e = or_left _ _ e

  pub reach_through : (first : List ℕ) (d k r o : ℕ) → o < 4 → has (side_set by next r o) d ≡ true
      → reach_in by next first d k (beyond by next r o) ≡ true → reach_in by next first d (suc k) r ≡ true
  unfolding reach_in
  reach_through first d k r o l p q =
      or_later (has (get_or first r 0) d) _ (any_of 4 (λ i. has (side_set by next r i) d && reach_in by next first d k
      (beyond by next r i)) o l (rw (p, q)))

  pub reach_cases : (first : List ℕ) (d k r : ℕ) → reach_in by next first d (suc k) r ≡ true
      → (has (get_or first r 0) d ≡ true)
      ⊎ ((o : ℕ) × (o < 4) × (has (side_set by next r o) d ≡ true) ×
      (reach_in by next first d k (beyond by next r o) ≡ true))
  unfolding reach_in
  reach_cases first d k r e = go (or_cases _ _ e)
    where
      f : ℕ → Bool
      f o = has (side_set by next r o) d && reach_in by next first d k (beyond by next r o)

      found : (o : ℕ) × (o < 4) × (f o ≡ true)
          → (o : ℕ) × (o < 4) × (has (side_set by next r o) d ≡ true) ×
          (reach_in by next first d k (beyond by next r o) ≡ true)
      found (o, l, q) = let p = and_parts _ _ q in (o, l, p.0, p.1)

      go : (has (get_or first r 0) d ≡ true) ⊎ (any_below 4 f ≡ true)
          → (has (get_or first r 0) d ≡ true)
          ⊎ ((o : ℕ) × (o < 4) × (has (side_set by next r o) d ≡ true) ×
          (reach_in by next first d k (beyond by next r o) ≡ true))
      go (inl a) = inl a
      go (inr b) = inr (found (any_true 4 f b))

  -- from router n on nothing is
  pub reach_idle : (n : ℕ) (first : List ℕ) → Idle by next n first → (d k r : ℕ) → n ≤ r
      → reach_in by next first d k r ≡ true → ⊥
  unfolding reach_in
  reach_idle n first w d zero r l e = true≢false (sym e ∙ w.here r d l)
  reach_idle n first w d (suc k) r l e = go (reach_cases first d k r e)
    where
      go : (has (get_or first r 0) d ≡ true)
          ⊎ ((o : ℕ) × (o < 4) × (has (side_set by next r o) d ≡ true) ×
          (reach_in by next first d k (beyond by next r o) ≡ true)) → ⊥
      go (inl a) = true≢false (sym a ∙ w.here r d l)
      go (inr (o, h, p, q)) = true≢false (sym p ∙ w.sides r o d l h)

  -- ---- one step of a sweep, at each router
  pub sweep_same : (t : List ℕ) (x : ℕ) → x < length t → get_or (sweep_at by next x t) x 0 ≡ pull_of by next t x
  unfolding sweep_at
  sweep_same t x l = get_or-set_same t x (pull_of by next t x) 0 l

  pub sweep_other : (t : List ℕ) (x r : ℕ) → (r ≡ x → ⊥) → get_or (sweep_at by next x t) r 0 ≡ get_or t r 0
  unfolding sweep_at
  sweep_other t x r h = get_or-set_other t x r (pull_of by next t x) 0 h

  pub sweep_length : (t : List ℕ) (x : ℕ) → length (sweep_at by next x t) ≡ length t
  unfolding sweep_at
  sweep_length t x = length-set t x (pull_of by next t x)

  pub sweep_grows : (t : List ℕ) (x r d : ℕ) → x < length t → has (get_or t r 0) d ≡ true
      → has (get_or (sweep_at by next x t) r 0) d ≡ true
  sweep_grows t x r d l e = go (same_or_not r x)
    where
      go : (r ≡ x) ⊎ (r ≡ x → ⊥) → has (get_or (sweep_at by next x t) r 0) d ≡ true
      go (inl q) = rw (q, sweep_same t x l) (pull_own t x d (rw q at e))
      go (inr h) = rw (sweep_other t x r h) e

  module _ (n : ℕ) (first : List ℕ) where
    -- what a sweep keeps: 32 sets, the first ones inside, nothing that is not reached
    pub record Fair (t : List ℕ) : Type 0 where
      pub long : length t ≡ 32
      pub holds : (r d : ℕ) → has (get_or first r 0) d ≡ true → has (get_or t r 0) d ≡ true
      pub sound : (r d : ℕ) → has (get_or t r 0) d ≡ true → (k : ℕ) × (reach_in by next first d k r ≡ true)

    pub fair_first : length first ≡ 32 → Fair first
    unfolding reach_in
    fair_first l = record { long = l; holds = λ r d e. e; sound = λ r d e. (0, e) }

    pull_sound : (t : List ℕ) → Fair t → (x d : ℕ) → has (pull_of by next t x) d ≡ true
        → (k : ℕ) × (reach_in by next first d k x ≡ true)
    pull_sound t w x d e = go (or_cases _ _ (sym (has_pull t x d) ∙ e))
      where
        f : ℕ → Bool
        f o = has (side_set by next x o) d && has (get_or t (beyond by next x o) 0) d

        via : (o : ℕ) × (o < 4) × (f o ≡ true) → (k : ℕ) × (reach_in by next first d k x ≡ true)
        via (o, l, q) =
            let p = and_parts _ _ q in
            let s = w.sound (beyond by next x o) d p.1 in
            (suc s.0, reach_through first d s.0 x o l p.0 s.1)

        go : (has (get_or t x 0) d ≡ true) ⊎ (any_below 4 f ≡ true) → (k : ℕ) × (reach_in by next first d k x ≡ true)
        go (inl a) = w.sound x d a
        go (inr b) = via (any_true 4 f b)

    pub fair_sweep : (x : ℕ) (t : List ℕ) → x < 32 → Fair t → Fair (sweep_at by next x t)
    fair_sweep x t l w = record {
      long = sweep_length t x ∙ w.long;
      holds = λ r d e. sweep_grows t x r d (rw w.long l) (w.holds r d e);
      sound = λ r d e. go r d e (same_or_not r x);
    }
      where
        go : (r d : ℕ) → has (get_or (sweep_at by next x t) r 0) d ≡ true → (r ≡ x) ⊎ (r ≡ x → ⊥)
            → (k : ℕ) × (reach_in by next first d k r ≡ true)
        go r d e (inl q) = rw q (pull_sound t w x d (rw (q, sweep_same t x (rw w.long l)) at e))
        go r d e (inr h) = w.sound r d (rw (sweep_other t x r h) at e)

    pub fair_up : (t : List ℕ) → n ≤ 16 → Fair t → Fair (up_of by next n t)
    unfolding up_of
    fair_up t l w = up_keeps Fair (sweep_at by next) n t (λ i u h q. fair_sweep i u (omega arith) q) w

    pub fair_down : (t : List ℕ) → n ≤ 16 → Fair t → Fair (down_of by next n t)
    unfolding down_of
    fair_down t l w = up_keeps Fair (λ i. sweep_at by next (n - 1 - i)) n t
        (λ i u h q. fair_sweep (n - 1 - i) u (omega arith) q) w

    -- ---- all that is reached within k steps is found
    abbrev pub Found : ℕ → List ℕ → Type 0
    Found k t = (r d : ℕ) → r < n → reach_in by next first d k r ≡ true → has (get_or t r 0) d ≡ true

    pub found_first : (t : List ℕ) → Fair t → Found 0 t
    unfolding reach_in
    found_first t w r d l e = w.holds r d e

    -- one step more by a sweep up
    pub found_up : (k : ℕ) (t : List ℕ) → n ≤ 16 → Idle by next n first → Fair t → Found k t
        → Found (suc k) (up_of by next n t)
    unfolding up_of
    found_up k t l idle w f = λ r d h e. all.2 r d h e
      where
        P : ℕ → List ℕ → Type 0
        P i u = (length u ≡ 32) × ((r d : ℕ) → has (get_or t r 0) d ≡ true → has (get_or u r 0) d ≡ true)
            × ((r d : ℕ) → r < i → reach_in by next first d (suc k) r ≡ true → has (get_or u r 0) d ≡ true)

        step : (i : ℕ) (u : List ℕ) → i < n → P i u → P (suc i) (sweep_at by next i u)
        step i u h (long, more, done) = (
          sweep_length u i ∙ long,
          λ r d e. sweep_grows u i r d (omega arith) (more r d e),
          λ r d b e. new r d e
              (same_or_not r i) b,
        )
          where
            own : (d : ℕ) → reach_in by next first d (suc k) i ≡ true → has (pull_of by next u i) d ≡ true
            own d e = go (reach_cases first d k i e)
              where
                there : (o : ℕ) → reach_in by next first d k (beyond by next i o) ≡ true
                    → (beyond by next i o < n) ⊎ (n ≤ beyond by next i o)
                    → has (get_or u (beyond by next i o) 0) d ≡ true
                there o q (inl b) = more _ d (f _ d b q)
                there o q (inr b) = absurd (reach_idle n first idle d k _ b q)

                go : (has (get_or first i 0) d ≡ true)
                    ⊎ ((o : ℕ) × (o < 4) × (has (side_set by next i o) d ≡ true) ×
                    (reach_in by next first d k (beyond by next i o) ≡ true))
                    → has (pull_of by next u i) d ≡ true
                go (inl a) = pull_own u i d (more i d (w.holds i d a))
                go (inr (o, b, p, q)) = pull_through u i d o b p (there o q (lt_or_ge (beyond by next i o) n))

            new : (r d : ℕ) → reach_in by next first d (suc k) r ≡ true → (r ≡ i) ⊎ (r ≡ i → ⊥) → r < suc i
                → has (get_or (sweep_at by next i u) r 0) d ≡ true
            new r d e (inl q) b = rw (q, sweep_same u i (omega arith)) (own d (rw q at e))
            new r d e (inr q) b = sweep_grows u i r d (omega arith) (done r d (omega arith) e)

        all : P n (up_to (sweep_at by next) n t)
        all = up_keeps_at P (sweep_at by next) n t step (w.long, λ r d e. e, λ r d b e. absurd (omega arith))

    pub found_down : (k : ℕ) (t : List ℕ) → n ≤ 16 → Fair t → Found k t → Found k (down_of by next n t)
    unfolding down_of
    found_down k t l w f = λ r d h e. all.1 r d (f r d h e)
      where
        P : List ℕ → Type 0
        P u = (length u ≡ 32) × ((r d : ℕ) → has (get_or t r 0) d ≡ true → has (get_or u r 0) d ≡ true)

        all : P (up_to (λ i. sweep_at by next (n - 1 - i)) n t)
        all = up_keeps P (λ i. sweep_at by next (n - 1 - i)) n t
            (λ i u h q. (
              sweep_length u (n - 1 - i) ∙ q.0,
              λ r d e. sweep_grows u (n - 1 - i) r d
                  (omega (arith, q.0)) (q.1 r d e),
            ))
            (w.long, λ r d e. e)

    -- where a sweep would change nothing, everything is found
    pub found_closed : (t : List ℕ) → Idle by next n first → Fair t → Closed by next n t → (k : ℕ) → Found k t
    found_closed t idle w c zero r d l e = found_first t w r d l e
    found_closed t idle w c (suc k) r d l e = go (found_closed t idle w c k) (reach_cases first d k r e)
      where
        there : Found k t → (o : ℕ) → reach_in by next first d k (beyond by next r o) ≡ true
            → (beyond by next r o < n) ⊎ (n ≤ beyond by next r o) → has (get_or t (beyond by next r o) 0) d ≡ true
        there rec o q (inl b) = rec _ d b q
        there rec o q (inr b) = absurd (reach_idle n first idle d k _ b q)

        go : Found k t → (has (get_or first r 0) d ≡ true)
            ⊎ ((o : ℕ) × (o < 4) × (has (side_set by next r o) d ≡ true) ×
            (reach_in by next first d k (beyond by next r o) ≡ true))
            → has (get_or t r 0) d ≡ true
        go rec (inl a) = w.holds r d a
        go rec (inr (o, b, p, q)) = rw (← c r l) (pull_through t r d o b p
            (there rec o q (lt_or_ge (beyond by next r o) n)))

-- ---- a sweep as a loop: new is 0 only as long as nothing changed
or_none : (a b : ℕ) → bit_or a b ≡ 0 → (a ≡ 0) × (b ≡ 0)
or_none a b e =
    let s = or_add_and a b in
    let l = and_le_l a b in
    let r = and_le_r a b in
    (omega arith, omega arith)

-- what router x reaches in one step more is what it reaches already, where nothing of it is new
less_none : (v w : ℕ) → less v w ≡ 0 → v ≤ w
unfolding less
less_none v w e = let r = and_le_r v w in omega arith

module _ (by : List (List ℕ)) (next first : List ℕ) where
  pull_grows : (t : List ℕ) (x : ℕ) → get_or t x 0 ≤ pull_of by next t x
  unfolding pull_of
  pull_grows t x =
      let a = either_grows (get_or t x 0) (either (through_of by next t x 0) (through_of by next t x 1)) in
      let b = either_grows (either (get_or t x 0) (either (through_of by next t x 0) (through_of by next t x 1)))
      (either (through_of by next t x 2) (through_of by next t x 3)) in
      omega arith

  pub unchanged : (t : List ℕ) (x : ℕ) → change_of by next t x ≡ 0 → pull_of by next t x ≡ get_or t x 0
  unfolding change_of
  unchanged t x e = let a = less_none (pull_of by next t x) (get_or t x 0) e in let b = pull_grows t x in omega arith

  abbrev pub Swept : ℕ → ℕ → List ℕ → Type 0
  Swept i new t = (t ≡ up_to (sweep_at by next) i first) × (new ≡ 0 → (t ≡ first) × Closed by next i first)

  pub swept_none : Swept 0 0 first
  swept_none = (up_none (sweep_at by next) first, λ e. (refl, λ x l. absurd (omega arith)))

  pub swept_more : (i new : ℕ) (t : List ℕ) {u : List ℕ} {c e : ℕ} → Swept i new t → u ≡ sweep_at by next i t
      → c ≡ change_of by next t i → e ≡ either new c → Swept (i + 1) e u
  unfolding sweep_at either
  swept_more i new t {u} {c} w p q f =
      (up_more (sweep_at by next) first i w.0 p, λ z. by' (or_none new c (sym f ∙ z)))
    where
      by' : (new ≡ 0) × (c ≡ 0) → (u ≡ first) × Closed by next (i + 1) first
      by' (a, b) =
          let same = unchanged t i (sym q ∙ b) in
          (p ∙ ap (set t i) same ∙ set-get_or t i 0 ∙ (w.1 a).0, λ x l. at x (same_or_not x i) l)
        where
          at : (x : ℕ) → (x ≡ i) ⊎ (x ≡ i → ⊥) → x < i + 1 → pull_of by next first x ≡ get_or first x 0
          at x (inl r) l =
              rw r
              (ap (λ (s : List ℕ). pull_of by next s i) (sym (w.1 a).0) ∙ unchanged t i (sym q ∙ b)
              ∙ ap (λ (s : List ℕ). get_or s i 0) (w.1 a).0)
          at x (inr r) l = (w.1 a).1 x (omega arith)

  pub swept_done : (i n new : ℕ) (t : List ℕ) {G : Type 0} → Swept i new t → i ≡ n → G
      → (t ≡ up_of by next n first) × (new ≡ 0 → Closed by next n t) × G
  unfolding up_of
  swept_done i n new t w e g =
      (up_done (sweep_at by next) first w.0 e, λ z. rw (← e, (w.1 z).0) (w.1 z).1, g)

-- ---- what all have
pub common_has : (t : List ℕ) (full n d : ℕ) → has (common_of t full n) d ≡ true
    → (has full d ≡ true) × ((r : ℕ) → r < n → has (get_or t r 0) d ≡ true)
unfolding common_of up_to
common_has t full zero d e = (e, λ r l. absurd (omega arith))
common_has t full (suc n) d e = go (and_parts _ _ (sym (has_both (common_of t full n) (get_or t n 0) d) ∙ e))
    (λ q. common_has t full n d q)
  where
    go : (has (common_of t full n) d ≡ true) × (has (get_or t n 0) d ≡ true)
        → (has (common_of t full n) d ≡ true → (has full d ≡ true) × ((r : ℕ) → r < n → has (get_or t r 0) d ≡ true))
        → (has full d ≡ true) × ((r : ℕ) → r < suc n → has (get_or t r 0) d ≡ true)
    go (a, b) rec = ((rec a).0, λ r l. at r (below_suc l))
      where
        at : (r : ℕ) → (r < n) ⊎ (r ≡ n) → has (get_or t r 0) d ≡ true
        at r (inl l) = (rec a).1 r l
        at r (inr q) = rw q b

-- ---- the three ways in which all is found
module _ (by : List (List ℕ)) (next : List ℕ) (n full : ℕ) (first : List ℕ) where
  pub reached_closed : (t : List ℕ) → Idle by next n first → Fair by next n first t → Closed by next n t
      → Reached by next n full first t
  reached_closed t idle w c =
      record { sound = w.sound; complete = λ k r d l h f e. found_closed by next n first t idle w c k r d h e }

  pub reached_full : (t : List ℕ) → Fair by next n first t → common_of t full n ≡ full → Reached by next n full first t
  reached_full t w c = record { sound = w.sound; complete = λ k r d l h f e. (common_has t full n d (rw c f)).1 r h }

  pub reached_rounds : (t : List ℕ) → Fair by next n first t → ((k : ℕ) → k ≤ n → Found by next n first k t)
      → Reached by next n full first t
  reached_rounds t w c = record { sound = w.sound; complete = λ k r d l h f e. c k l r d h e }

-- ---- a loop of rounds
module _ (by : List (List ℕ)) (next : List ℕ) (n : ℕ) (first : List ℕ) where
  pub record Round (k : ℕ) (t : List ℕ) : Type 0 where
    pub fair : Fair by next n first t
    pub found : (j : ℕ) → j ≤ k → Found by next n first j t

  pub round_none : length first ≡ 32 → Round 0 first
  round_none l = record { fair = fair_first by next n first l; found = λ j h. at j h }
    where
      at : (j : ℕ) → j ≤ 0 → Found by next n first j first
      at zero h = found_first by next n first first (fair_first by next n first l)
      at (suc j) h = absurd (omega arith)

  pub round_more : (k : ℕ) (t : List ℕ) {u v : List ℕ} → n ≤ 16 → Idle by next n first → Round k t → u
      ≡ up_of by next n t → v ≡ down_of by next n u
      → Round (k + 1) v
  round_more k t l idle w p q = rw (q, p) (record { fair = fair_down by next n first _ l up; found = at })
    where
      up : Fair by next n first (up_of by next n t)
      up = fair_up by next n first t l w.fair

      at : (j : ℕ) → j ≤ k + 1 → Found by next n first j (down_of by next n (up_of by next n t))
      at zero h = found_first by next n first _ (fair_down by next n first _ l up)
      at (suc j) h = found_down by next n first (suc j) _ l up
          (found_up by next n first j t l idle w.fair (w.found j (omega arith)))

  -- how a loop of rounds ends
  module _ (full : ℕ) where
    pub end_closed : (k : ℕ) (t : List ℕ) {u : List ℕ} → n ≤ 16 → Idle by next n first → Round k t → u
        ≡ up_of by next n t → Closed by next n u
        → Reached by next n full first u
    end_closed k t {u} l idle w p c = reached_closed by next n full first u idle
        (rw p (fair_up by next n first t l w.fair)) c

    pub end_full : (k : ℕ) (t : List ℕ) → Round k t → common_of t full n ≡ full → Reached by next n full first t
    end_full k t w c = reached_full by next n full first t w.fair c

    pub end_rounds : (k : ℕ) (t : List ℕ) → Round k t → k ≡ n → Reached by next n full first t
    end_rounds k t w e = reached_rounds by next n full first t w.fair (λ j h. w.found j (omega arith))
