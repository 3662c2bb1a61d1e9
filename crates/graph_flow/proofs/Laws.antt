-- A turn of a router, a sweep, and the rounds: what they find is all that is carried, and nothing else.
use mathlib.Core.Path.{◌≡◌, refl, sym, ◌∙◌}
use mathlib.Core.Logic.{◌⊎◌, inl, inr, ◌≢◌}
use mathlib.Core.Bool.{true, false, and-eq-true_iff}
use mathlib.Core.List.{List, []}
use Prim.Native.Nat.{ℕ, zero, suc, ◌+◌, ◌*◌, ◌/◌, ◌%◌, ◌≤◌, ◌<◌}
use native.Mathlib.Omega.{arith}
use lib.Dec.{eqb}
use lib.ListN.{get_or, set, length, length-set}
use lib.Seq.{get_or-set_same, get_or-set_other}
use borrow.Author.Tests.{eqb-true, eqb-false, eq-eqb, ne_eqb, lt-ltb}
use Rattle.basis.specs.Choice.{test, refuted, affirmed, not_both}
use Rattle.basis.specs.Bounded.{below_suc, or_cases, or_right}
use Rattle.sets.specs.Sets.{has, single, both, either, less, below}
use Rattle.sets.specs.Laws.{has_both, has_either, has_less, has_single, has_below, none_has}
use Rattle.graph_flow.specs.Carried.{partner_of, beyond_of, In, Leaves, Gone, Carried, Fair, Pushed, Passed, Off}
use Rattle.graph_flow.specs.Carried.{Stepped, Round, Spread}

-- ---- members of sets
none_of : (s d : ℕ) → s ≡ 0 → has s d ≡ false
none_of s d e = rw e (none_has d)

pub in_both : (s t d : ℕ) → has s d ≡ true → has t d ≡ true → has (both s t) d ≡ true
in_both s t d a b = has_both s t d ∙ (and-eq-true_iff (has s d) (has t d)).1 (a, b)

pub both_in : (s t d : ℕ) → has (both s t) d ≡ true → (has s d ≡ true) × (has t d ≡ true)
both_in s t d e = (and-eq-true_iff (has s d) (has t d)).0 (sym (has_both s t d) ∙ e)

pub in_left : (s t d : ℕ) → has s d ≡ true → has (either s t) d ≡ true
in_left s t d a = has_either s t d ∙ rw a

pub in_right : (s t d : ℕ) → has t d ≡ true → has (either s t) d ≡ true
in_right s t d a = has_either s t d ∙ rw a (or_right (has s d))

pub either_in : (s t d : ℕ) → has (either s t) d ≡ true → (has s d ≡ true) ⊎ (has t d ≡ true)
either_in s t d e = or_cases (has s d) (has t d) (sym (has_either s t d) ∙ e)

not_left : (s t d : ℕ) → has (either s t) d ≡ false → has s d ≡ false
not_left s t d e = refuted (has s d) (λ a. not_both (in_left s t d a) e)

not_right : (s t d : ℕ) → has (either s t) d ≡ false → has t d ≡ false
not_right s t d e = refuted (has t d) (λ a. not_both (in_right s t d a) e)

-- ---- the port beyond a port
pub partner_some : (joints : List ℕ) (k : ℕ) {v : ℕ} → v ≡ get_or joints k 0 → v / 64 ≡ 1
    → (v % 64 ≡ partner_of joints k) × (v % 64 < 64)
unfolding partner_of
partner_some joints k e q = (rw (← e, eq-eqb _ 1 q), omega arith)

pub partner_none : (joints : List ℕ) (k : ℕ) {v : ℕ} → v ≡ get_or joints k 0 → v / 64 ≢ 1 → partner_of joints k ≡ 64
unfolding partner_of
partner_none joints k e q = rw (← e, ne_eqb _ 1 q)

module _ (by : List (List ℕ)) (joints : List ℕ) where
  abbrev to : ℕ → ℕ → ℕ
  to x o = beyond_of joints (4 * x + o)

  abbrev side : ℕ → ℕ → ℕ
  side x o = get_or (get_or by x []) o 0

  -- ---- one side
  pub pushed_none : (x o : ℕ) (t : List ℕ) {n m l : ℕ} → n ≡ to x o → m ≡ both (side x o) (get_or t x 0)
      → l ≡ less m (get_or t n 0) → l ≡ 0 → Pushed by joints x o t 0 t
  pushed_none x o t {n} {m} {l} en em el e = record {
    long = refl;
    keeps = λ y d a. a;
    fair = λ n f h a. a;
    gone = λ d a b. affirmed (has (get_or t (to x o) 0) d)
        (λ c. not_both (new d a b c) (none_of (less m (get_or t n 0)) d (sym el ∙ e)));
    same = λ y a. refl;
  }
    where
      new : (d : ℕ) → Leaves by joints x o d → In t x d → has (get_or t (to x o) 0) d ≡ false
          → has (less m (get_or t n 0)) d ≡ true
      new d a b c = has_less m (get_or t n 0) d ∙ rw (em, in_both (side x o) (get_or t x 0) d a b, en, c)

  pub pushed_empty : (x o : ℕ) (t : List ℕ) {m : ℕ} → m ≡ both (side x o) (get_or t x 0) → m ≡ 0
      → Pushed by joints x o t 0 t
  pushed_empty x o t {m} em e = record {
    long = refl;
    keeps = λ y d a. a;
    fair = λ n f h a. a;
    gone = λ d a b. absurd (not_both (rw em (in_both (side x o) (get_or t x 0) d a b)) (none_of m d e));
    same = λ y a. refl;
  }

  pub pushed_some : (x o : ℕ) (t : List ℕ) {n m v s : ℕ} → length t ≡ 32 → (n ≡ to x o) × (n < 32) → o < 4
      → m ≡ both (side x o) (get_or t x 0) → v ≡ either (get_or t n 0) m → s ≡ single n
      → Pushed by joints x o t s (set t n v)
  pushed_some x o t {n} {m} {v} {s} long (en, small) ho em ev es = record {
    long = length-set t n v;
    keeps = λ y d a. kept y d a (test (eqb y n));
    fair = λ k f h a y d b. came k f h a y d b (test (eqb y n));
    gone = λ d a b. rw (← en, row) (rw ev (in_right (get_or t n 0) m d
        (rw em (in_both (side x o) (get_or t x 0) d a b))));
    same = λ y a. get_or-set_other t n y v 0 (λ q. not_both (rw es (has_single n y ∙ eq-eqb y n q)) a);
  }
    where
      row : get_or (set t n v) n 0 ≡ v
      row = get_or-set_same t n v 0 (omega arith)

      kept : (y d : ℕ) → In t y d → (eqb y n ≡ true) ⊎ (eqb y n ≡ false) → In (set t n v) y d
      kept y d a (inl q) =
          rw (eqb-true y n q, row, ev) (in_left (get_or t n 0) m d (rw (eqb-true y n q) at a))
      kept y d a (inr q) = rw (get_or-set_other t n y v 0 (eqb-false y n q)) a

      came : (k : ℕ) (f : List ℕ) → x < k → Fair by joints k f t → (y d : ℕ) → In (set t n v) y d
          → (eqb y n ≡ true) ⊎ (eqb y n ≡ false)
          → (j : ℕ) × Carried by joints k f d j y
      came k f h a y d b (inr q) = a y d (rw (get_or-set_other t n y v 0 (eqb-false y n q)) at b)
      came k f h a y d b (inl q) =
          at (either_in (get_or t n 0) m d (rw (eqb-true y n q, row, ev) at b))
        where
          at : (has (get_or t n 0) d ≡ true) ⊎ (has m d ≡ true) → (j : ℕ) × Carried by joints k f d j y
          at (inl c) = rw (eqb-true y n q) (a n d c)
          at (inr c) =
              let p = both_in (side x o) (get_or t x 0) d (rw em at c) in
              let w = a x d p.1 in
              (suc w.0, (x, o, h, ho, sym en ∙ sym (eqb-true y n q), p.0, w.1))

  -- ---- four sides
  pub passed : (x : ℕ) (t : List ℕ) {t1 t2 t3 t4 : List ℕ} {a b c d e f new : ℕ} → Pushed by joints x 0 t a t1
      → Pushed by joints x 1 t1 b t2 → Pushed by joints x 2 t2 c t3 → Pushed by joints x 3 t3 d t4
      → e ≡ either a b → f ≡ either c d → new ≡ either e f → Passed by joints x t new t4
  passed x t {t4 = t4} {a = a} {b} {c} {d} {e} {f} {new} p q r s ee ef en = record {
    long = s.long ∙ r.long ∙ q.long ∙ p.long;
    keeps = λ y i u. s.keeps y i (r.keeps y i (q.keeps y i (p.keeps y i u)));
    fair = λ n g h u. s.fair n g h (r.fair n g h (q.fair n g h (p.fair n g h u)));
    gone = λ o l. on o l;
    same = λ y u.
        let v = rw en at u in
        let l = rw ee at (not_left e f y v) in
        let m = rw ef at (not_right e f y v) in
        s.same y (not_right c d y m) ∙ r.same y (not_left c d y m) ∙ q.same y (not_right a b y l)
        ∙ p.same y (not_left a b y l);
  }
    where
      on : (o : ℕ) → o < 4 → Gone by joints x o t t4
      on zero l i u v = s.keeps _ i (r.keeps _ i (q.keeps _ i (p.gone i u v)))
      on (suc zero) l i u v = s.keeps _ i (r.keeps _ i (q.gone i u (p.keeps x i v)))
      on (suc (suc zero)) l i u v = s.keeps _ i (r.gone i u (q.keeps x i (p.keeps x i v)))
      on (suc (suc (suc zero))) l i u v = s.gone i u (r.keeps x i (q.keeps x i (p.keeps x i v)))
      on (suc (suc (suc (suc o)))) l i u v = absurd (omega arith)

  -- ---- a turn
  pub stepped_none : (x work : ℕ) (t : List ℕ) → has work x ≡ false → Stepped by joints x work t work t
  stepped_none x work t e = record {
    long = refl;
    keeps = λ y d a. a;
    fair = λ n f h a. a;
    gone = λ n h a o l. a x h e o l;
    off = λ n a. a;
  }

  pub stepped_some : (x work : ℕ) (t : List ℕ) {after : List ℕ} {new w left : ℕ} → Passed by joints x t new after
      → w ≡ less work (single x) → left ≡ either w new → Stepped by joints x work t left after
  stepped_some x work t {after} {new} {w} {left} p ew el = record {
    long = p.long;
    keeps = p.keeps;
    fair = p.fair;
    gone = λ n h a o l. p.gone o l;
    off = λ n a y h e o l. turn n a y h (not_left w new y (rw el at e)) (not_right w new y (rw el at e)) o l
        (test (eqb y x));
  }
    where
      turn : (n : ℕ) → Off by joints n work t → (y : ℕ) → y < n → has w y ≡ false → has new y ≡ false → (o : ℕ) → o < 4
          → (eqb y x ≡ true) ⊎ (eqb y x ≡ false) → Gone by joints y o after after
      turn n a y h e f o l (inl q) d u v =
          let s : y ≡ x = eqb-true y x q in
          rw s (p.gone o l d (rw s at u) (rw (s, p.same x (rw s at f)) at v))
      turn n a y h e f o l (inr q) d u v =
          let off : has work y ≡ false =
          refuted (has work y) (λ b. not_both (has_less work (single x) y ∙ rw (b, has_single x y, q)) (rw ew at e)) in
          p.keeps (to y o) d (a y h off o l d u (rw (p.same y f) at v))

  -- ---- the sweeps
  module _ (n : ℕ) (first : List ℕ) (k : ℕ) where
    pub round_more : {x work left : ℕ} {t after : List ℕ} → x < n → Stepped by joints x work t left after
        → Round by joints n first k work t → Round by joints n first k left after
    round_more h s r = record {
      long = s.long ∙ r.long;
      fair = s.fair n first h r.fair;
      off = s.off n r.off;
      found = λ j l y d c. s.keeps y d (r.found j l y d c);
    }

    -- the first i routers have had their turn
    pub record Turned (before : List ℕ) (i left : ℕ) (t : List ℕ) : Type 0 where
      pub round : Round by joints n first k left t
      pub kept : (y d : ℕ) → In before y d → In t y d
      pub done : (x : ℕ) → x < i → (o : ℕ) → o < 4 → Gone by joints x o before t

    pub turned_none : {work : ℕ} {t : List ℕ} → Round by joints n first k work t → Turned t 0 work t
    turned_none r = record { round = r; kept = λ y d a. a; done = λ x h. absurd (omega arith) }

    pub turned_more : {i work left : ℕ} {before t after : List ℕ} → i < n → Stepped by joints i work t left after
        → Turned before i work t → Turned before (i + 1) left after
    turned_more {i} {work} {left} {before} {t} {after} h s r = record {
      round = round_more h s r.round;
      kept = λ y d a. s.keeps y d (r.kept y d a);
      done = λ x l o m d a b. at x (below_suc {i = x} {n = i} (omega arith)) o m d a b;
    }
      where
        at : (x : ℕ) → (x < i) ⊎ (x ≡ i) → (o : ℕ) → o < 4 → Gone by joints x o before after
        at x (inl l) o m d a b = s.keeps (to x o) d (r.done x l o m d a b)
        at x (inr q) o m d a b = rw q (s.gone n h r.round.off o m d (rw q at a) (r.kept i d (rw q at b)))

    pub turned_done : {i left work : ℕ} {before t : List ℕ} → Round by joints n first k work before
        → Turned before i left t → i ≡ n
        → Round by joints n first (k + 1) left t
    turned_done {i} {left} {work} {before} {t} was r e = record {
      long = r.round.long;
      fair = r.round.fair;
      off = r.round.off;
      found = λ j l y d c. at j l y d c;
    }
      where
        at : (j : ℕ) → j ≤ k + 1 → (y d : ℕ) → Carried by joints n first d j y → In t y d
        at zero l y d c = r.round.found 0 (omega arith) y d c
        at (suc j) l y d (x, o, hx, ho, q, u, c) =
            rw (← q) (r.done x (omega arith) o ho d u (was.found j (omega arith) x d c))

  -- ---- the rounds
  module _ (n : ℕ) (first : List ℕ) where
    pub round_first : (work : ℕ) → length first ≡ 32 → ((x : ℕ) → x < n → has work x ≡ false → get_or first x 0 ≡ 0)
        → Round by joints n first 0 work first
    round_first work long h = record {
      long = long;
      fair = λ y d a. (0, a);
      off = λ x l e o m d a b. absurd (not_both b (none_of (get_or first x 0) d (h x l e)));
      found = λ j l y d c. at j l y d c;
    }
      where
        at : (j : ℕ) → j ≤ 0 → (y d : ℕ) → Carried by joints n first d j y → In first y d
        at zero l y d c = c
        at (suc j) l y d c = absurd (omega arith)

    pub ends_off : {k work all left : ℕ} {t : List ℕ} → all ≡ below n → left ≡ both work all → left ≡ 0
        → Round by joints n first k work t → Spread by joints n first t
    ends_off {k} {work} {all} {left} {t} ea el e r = record { sound = r.fair; complete = λ j l y d c. at j y d c }
      where
        free : (x : ℕ) → x < n → has work x ≡ false
        free x l =
            refuted (has work x) (λ b. not_both (in_both work all x b (rw ea (has_below n x ∙ lt-ltb x n l)))
            (none_of (both work all) x (sym el ∙ e)))

        at : (j y d : ℕ) → Carried by joints n first d j y → In t y d
        at zero y d c = r.found 0 (omega arith) y d c
        at (suc j) y d (x, o, hx, ho, q, u, c) = rw (← q) (r.off x hx (free x hx) o ho d u (at j x d c))

    pub ends_long : {k work : ℕ} {t : List ℕ} → k ≡ n → Round by joints n first k work t → Spread by joints n first t
    ends_long e r = record { sound = r.fair; complete = λ j l y d c. r.found j (omega arith) y d c }
