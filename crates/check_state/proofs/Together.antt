-- The check's parts put together, as the code goes through them.
use mathlib.Core.Path.{◌≡◌, refl, sym, ap, ◌∙◌}
use mathlib.Core.Logic.{◌⊎◌, inl, inr}
use mathlib.Core.Bool.{Bool, true, false, false≢true}
use mathlib.Core.List.{List}
use Prim.Native.Nat.{ℕ, zero, suc, ◌+◌, ◌*◌, ◌≤◌, ◌<◌, min}
use native.Mathlib.Omega.{arith}
use lib.Dec.{ltb, leb}
use lib.ListN.{get_or, length, replicate}
use borrow.Author.Tests.{ltb-true, ltb-false, leb-true, lt-leb, le-leb}
use Rattle.basis.specs.Choice.{also, also_true, test}
use Rattle.plan.specs.declared.Head.{Head}
use Rattle.plan.specs.Head.{InRange}
use Rattle.plan.specs.Plan.{Plan, R, A, S}
use Rattle.plan.specs.Tables.{table_plan}
use Rattle.plan_queues.specs.Queue.{queues}
use Rattle.rules.specs.Outputs.{outputs}
use Rattle.rules.specs.State.{start_allowance}
use Rattle.rules.specs.Valid.{sum, total, spends}
use Rattle.bytes_layout.specs.Offsets.{size, allowances_at, table_at}
use Rattle.bytes_layout.specs.Decode.{decode}
use Rattle.check_rule.specs.Forms.{header_form}
use Rattle.check_rule.specs.Check.{check_of, outputs_part, queues_part, picks_part, allowances_part, tables_part}
use Rattle.check_rule.specs.Check.{connections_part, turns_part}
use Rattle.check_idle.specs.Bytes.{QuietBytes, allowances_fit, sides_fit}
use Rattle.check_last_senders.specs.Turns.{turns_fit}
use Rattle.check_idle.proofs.Meaning.{quiet_parts, quiet_spent, tables_fit, allowances_fit_lem}
use Rattle.check_last_senders.proofs.Remembered.{turns_fit_lem}
use Rattle.check_frames.specs.Tally.{Tallied}
use Rattle.check_queues.specs.Lines.{spent_in, LinesChecked}
use Rattle.check_wires.specs.Outputs.{spent_on, OutputsChecked}
use Rattle.check_choices.proofs.Picking.{picks_none}
use Rattle.bytes_steps.specs.Counts.{state_size, allowances_from, table_from, size_by, allowances_at_lem, table_at_lem}
use Rattle.next_queue.specs.Lent.{Lent}
use Rattle.next_queue.specs.Wiring.{Wiring}
use Rattle.check_connections.specs.Given.{Given}
use Rattle.std.specs.Prelude.{Err}
use Rattle.kinds.specs.declared.Refusal.TheVariants.{NotState}
use Rattle.check_state.specs.Inspect.{header_fits, whole_of, Passed, checked_of, none_spent}

-- an active's whole allowance is its start allowance
pub whole_start : (pl : Plan) → whole_of pl.head ≡ start_allowance pl
unfolding whole_of
whole_start pl = by (test (ltb pl.head.aout.0 pl.head.ain.0))
  where
    by : (ltb pl.head.aout.0 pl.head.ain.0 ≡ true) ⊎ (ltb pl.head.aout.0 pl.head.ain.0 ≡ false)
        → whole_of pl.head ≡ start_allowance pl
    by (inl t) = let l = ltb-true pl.head.aout.0 pl.head.ain.0 t in rw t (omega arith)
    by (inr t) = let l = ltb-false pl.head.aout.0 pl.head.ain.0 t in rw t (omega arith)

pub whole_few : (h : Head) → InRange h → whole_of h ≤ 7
unfolding whole_of
whole_few h range = by (test (ltb h.aout.0 h.ain.0))
  where
    by : (ltb h.aout.0 h.ain.0 ≡ true) ⊎ (ltb h.aout.0 h.ain.0 ≡ false) → whole_of h ≤ 7
    by (inl t) = let r = range.aout.1 in rw t r
    by (inr t) = let r = range.ain.1 in rw t r

module _ (pl : Plan) (b : List ℕ) where
  abbrev passing : Bool
  passing = also (outputs_part pl b) (also (queues_part pl b) (picks_part pl b))

  abbrev rest : Bool
  rest = also (allowances_part pl b) (also (tables_part pl b) (also (connections_part pl b) (turns_part pl b)))

  regroup : (o q p x : Bool) → also o (also q (also p x)) ≡ also (also o (also q p)) x
  regroup true true p x = refl
  regroup true false p x = refl
  regroup false q p x = refl

  header_same : header_form pl b ≡ header_fits pl.head b
  unfolding header_form header_fits
  header_same = refl

  pub too_short : length b < size pl → check_of pl b ≡ false
  unfolding check_of
  too_short l = rw (lt-leb (size pl) (length b) l)

  pub no_header : size pl ≤ length b → {t : Bool} → t ≡ header_fits pl.head b → t ≡ false → check_of pl b ≡ false
  unfolding check_of
  no_header l e f = rw (le-leb (size pl) (length b) l, header_same, ← e, f)

  pub body_is : size pl ≤ length b → header_fits pl.head b ≡ true
      → check_of pl b ≡ also passing rest
  unfolding check_of
  body_is l e =
      rw (le-leb (size pl) (length b) l, header_same, e)
      (regroup (outputs_part pl b) (queues_part pl b) (picks_part pl b) rest)

-- ---- nothing counted
replicate_at : (n k : ℕ) → ◌≡◌ {A = ℕ} (get_or (replicate n 0) k 0) 0
replicate_at zero k = refl
replicate_at (suc n) zero = refl
replicate_at (suc n) (suc k) = replicate_at n k

replicate_long : (n : ℕ) → length {A = ℕ} (replicate n 0) ≡ n
replicate_long zero = refl
replicate_long (suc n) = ap suc (replicate_long n)

pub none_coming_lem : (n : ℕ) → ◌≡◌ {A = ℕ} (get_or (replicate 512 0) n 0) 0
none_coming_lem n = replicate_at 512 n

pub coming_long : length (replicate {A = ℕ} 512 0) ≡ 512
coming_long = replicate_long 512

pub none_spent_lem : (a : ℕ) → get_or none_spent a 0 ≡ 0
unfolding none_spent
none_spent_lem a = replicate_at 16 a

pub spent_long : length none_spent ≡ 16
unfolding none_spent
spent_long = replicate_long 16

-- ---- the plan of the tables
pub plan_head : (h : Head) (routes : List (List ℕ)) (joints : List ℕ) → (table_plan h routes joints).head ≡ h
unfolding table_plan
plan_head h routes joints = refl

module _ (h : Head) (routes : List (List ℕ)) (joints : List ℕ) (range : InRange h) (b : List ℕ) where
  abbrev net : Plan
  net = table_plan h routes joints

  -- ---- what was counted is the total
  counted : (t u v : List ℕ) → t ≡ none_spent → Tallied (λ a. sum (outputs net) (spent_on net b a)) t u
      → Tallied (λ a. sum (queues net) (λ n. spent_in net b a n)) u v → (a : ℕ) → a < A net
      → get_or v a 0 ≡ min 200 (total net (spends a) (decode net b))
  unfolding table_plan total
  counted t u v e x y a l =
      let m = range.actives.1 in
      let k : a < 16 = omega arith in
      let f : length t ≡ 16 = ap length e ∙ spent_long in
      let z : get_or t a 0 ≡ 0 = ap (λ (s : List ℕ). get_or s a 0) e ∙ none_spent_lem a in
      let small : (c : ℕ) → c < 16 → get_or t c 0 ≤ 200 =
      λ c h. let q : get_or t c 0 ≡ 0 = ap (λ (s : List ℕ). get_or s c 0) e ∙ none_spent_lem c in omega arith in
      let p = x.grown f a k in
      let q = y.grown (x.long f) a k in
      let s = y.small (x.long f) (x.small f small) a k in
      omega arith

  -- ---- the ways out where something is on the way
  pub busy_outputs : {x : Bool} {c d t u v : List ℕ} → OutputsChecked net b x c d t u → x ≡ false → Passed net b false v
  busy_outputs o e =
      record { test = sym (rw (← o.test, e)); count = λ f. absurd (false≢true f) }

  pub busy_lines : {x y : Bool} {c d t u v w : List ℕ} → OutputsChecked net b x c d t u → x ≡ true
      → LinesChecked net b y u v → y ≡ false → Passed net b false w
  busy_lines o e l f =
      record { test = sym (rw (← o.test, e, ← l.test, f)); count = λ g. absurd (false≢true g) }

  pub busy_picks : {x y z : Bool} {c d t u v : List ℕ} → t ≡ none_spent → OutputsChecked net b x c d t u → x ≡ true
      → LinesChecked net b y u v → y ≡ true → z ≡ picks_part net b → Passed net b z v
  busy_picks {x} {y} {z} {c} {d} {t} {u} {v} n o e l f g =
      record {
        test = g ∙ sym (rw (← o.test, e, ← l.test, f));
        count = λ h. counted t u v n (o.count e) (l.count f);
      }

  pub busy_else : {x y : Bool} {c d t u v : List ℕ} → t ≡ none_spent → OutputsChecked net b x c d t u → x ≡ true
      → LinesChecked net b y u v → y ≡ true → get_or b 0 0 ≤ 2 → (get_or b 0 0 ≡ 2 → ⊥) → Passed net b true v
  busy_else n o e l f m k =
      busy_picks n o e l f (sym (picks_none net b (omega arith) (sym o.test ∙ e)))

  -- ---- nothing on the way
  pub quiet_passed : {t : List ℕ} → t ≡ none_spent → QuietBytes h b → Passed net b true t
  quiet_passed {t} e q =
      let g : QuietBytes net.head b = rw (plan_head h routes joints) q in
      let p = quiet_parts net b g in
      record {
        test = sym (rw (p.0, p.1, p.2));
        count = λ f a l. ap (λ (s : List ℕ). get_or s a 0) e ∙ none_spent_lem a ∙ ap (min 200)
            (sym (quiet_spent net b g (spends a)));
      }

  -- ---- the body
  module _ (l : state_size h ≤ length b) (e : header_fits h b ≡ true) where
    long : size net ≤ length b
    long = rw (size_by net, plan_head h routes joints) l

    whole : check_of net b ≡ also (passing net b) (rest net b)
    whole = body_is net b long (rw (plan_head h routes joints) e)

    pub body_places : {x : Bool} {t : List ℕ} → Passed net b x t → x ≡ false → false ≡ check_of net b
    body_places p f = sym (whole ∙ rw (← p.test, f))

    allowances_is : (t : List ℕ) → Passed net b true t
        → allowances_fit (allowances_from h + 0) h.actives (whole_of h) t b ≡ allowances_part net b
    allowances_is t p =
        let z : allowances_from h + 0 ≡ allowances_at net =
        (let y : allowances_from h + 0 ≡ allowances_from h = omega arith in y)
        ∙ sym (allowances_at_lem net ∙ ap allowances_from (plan_head h routes joints)) in
        let w : whole_of h ≡ start_allowance net = ap whole_of (sym (plan_head h routes joints)) ∙ whole_start net in
        let a : h.actives ≡ A net = ap (λ (k : Head). k.actives) (sym (plan_head h routes joints)) in
        let f : whole_of h ≤ 7 = whole_few h range in
        (λ i. allowances_fit (z i) (a i) (w i) t b) ∙ allowances_fit_lem net b t (p.count refl) (rw (← w) f)

    tables_is : sides_fit (table_from h) h.slots (4 * h.routers) b ≡ tables_part net b
    tables_is =
        let z : table_from h ≡ table_at net = sym (table_at_lem net ∙ ap table_from (plan_head h routes joints)) in
        let s : h.slots ≡ S net = ap (λ (k : Head). k.slots) (sym (plan_head h routes joints)) in
        let r : 4 * h.routers ≡ 4 * R net = ap (λ (k : Head). 4 * k.routers) (sym (plan_head h routes joints)) in
        let m : h.slots ≤ 32 = range.slots.1 in
        (λ i. sides_fit (z i) (s i) (r i) b) ∙ tables_fit net b (rw (← s) m)

    pub body_allowances : {x y : Bool} {t : List ℕ} → Passed net b x t → x ≡ true
        → y ≡ allowances_fit (allowances_from h + 0) h.actives (whole_of h) t b → y ≡ false → false ≡ check_of net b
    body_allowances {x} {y} {t} p f g k =
        let q : Passed net b true t = rw f at p in
        sym (whole ∙ rw (← q.test, ← allowances_is t q, ← g, k))

    pub body_tables : {x y z : Bool} {t : List ℕ} → Passed net b x t → x ≡ true
        → y ≡ allowances_fit (allowances_from h + 0) h.actives (whole_of h) t b → y ≡ true
        → z ≡ sides_fit (table_from h) h.slots (4 * h.routers) b → z ≡ false → false ≡ check_of net b
    body_tables {x} {y} {z} {t} p f g k m n =
        let q : Passed net b true t = rw f at p in
        sym (whole ∙ rw (← q.test, ← allowances_is t q, ← g, k, ← tables_is, ← m, n))

    pub body_ties : {x y z v : Bool} {t : List ℕ} → Passed net b x t → x ≡ true
        → y ≡ allowances_fit (allowances_from h + 0) h.actives (whole_of h) t b → y ≡ true
        → z ≡ sides_fit (table_from h) h.slots (4 * h.routers) b → z ≡ true → v ≡ connections_part net b → v ≡ false
        → false ≡ check_of net b
    body_ties {x} {y} {z} {v} {t} p f g k m n d w =
        let q : Passed net b true t = rw f at p in
        sym (whole ∙ rw (← q.test, ← allowances_is t q, ← g, k, ← tables_is, ← m, n, ← d, w))

    pub body_turns : {x y z v u : Bool} {t : List ℕ} → Passed net b x t → x ≡ true
        → y ≡ allowances_fit (allowances_from h + 0) h.actives (whole_of h) t b → y ≡ true
        → z ≡ sides_fit (table_from h) h.slots (4 * h.routers) b → z ≡ true → v ≡ connections_part net b → v ≡ true
        → u ≡ turns_fit h joints b → u ≡ check_of net b
    body_turns {x} {y} {z} {v} {u} {t} p f g k m n d w r =
        let q : Passed net b true t = rw f at p in
        r ∙ turns_fit_lem h routes joints b
        ∙ sym (whole ∙ rw (← q.test, ← allowances_is t q, ← g, k, ← tables_is, ← m, n, ← d, w))

  -- ---- the whole
  pub all_short : length b < state_size h → checked_of (check_of net b) ≡ Err NotState
  all_short l =
      let s : length b < size net = rw (size_by net, plan_head h routes joints) l in
      ap checked_of (too_short net b s)

  pub all_headless : state_size h ≤ length b → {x : Bool} → x ≡ header_fits h b → x ≡ false
      → checked_of (check_of net b) ≡ Err NotState
  all_headless l e f =
      let s : size net ≤ length b = rw (size_by net, plan_head h routes joints) l in
      ap checked_of (no_header net b s (rw (plan_head h routes joints) e) f)

  pub all_checked : {x y : Bool} → x ≡ check_of net b → x ≡ y → checked_of y ≡ checked_of (check_of net b)
  all_checked e f = ap checked_of (sym f ∙ e)

-- ---- what the header and the tables give
pub phase_few : (h : Head) (b : List ℕ) → header_fits h b ≡ true → get_or b 0 0 ≤ 2
unfolding header_fits
phase_few h b e =
    leb-true (get_or b 0 0) 2 (also_true {a = leb (get_or b 0 0) 2} {b = ltb (get_or b 1 0) h.slots} e).0

pub lent_wired : (h : Head) (routes : List (List ℕ)) (joints homes : List ℕ) (lengths by : List (List ℕ))
    → Lent h routes joints homes lengths by → Wiring h routes joints homes
unfolding table_plan
lent_wired h routes joints homes lengths by w =
    record { range = w.range; wired = w.tables.chart.wired; ports = w.tables.chart.ports }

pub lent_given : (h : Head) (routes : List (List ℕ)) (joints homes : List ℕ) (lengths by : List (List ℕ)) (b : List ℕ)
    → Lent h routes joints homes lengths by → state_size h ≤ length b → Given h routes joints homes lengths b
lent_given h routes joints homes lengths by b w l =
    record { wiring = lent_wired h routes joints homes lengths by w; sizes = w.sizes; long = l }
