-- How every call begins: Load's answer and its tables, the check's answer, and what the call's own code then did.
use mathlib.Core.Path.{◌≡◌, refl, sym, ap, ap₂, ◌∙◌, subst}
use mathlib.Core.Bool.{Bool, true, false}
use mathlib.Core.List.{List}
use Prim.Native.Nat.{ℕ, ◌≤◌, ◌<◌}
use lib.ListN.{length}
use borrow.Author.Tests.{lt-ltb, le-ltb}
use Rattle.std.specs.Prelude.{Result, Ok, Err}
use Rattle.kinds.specs.declared.Refusal.{Refusal}
use Rattle.kinds.specs.declared.Refusal.TheVariants.{NotState}
use Rattle.packets.specs.declared.Answer.{Answer}
use Rattle.packets.specs.declared.Answer.TheVariants.{Refused, Done}
use Rattle.plan.specs.declared.Head.{Head}
use Rattle.plan.specs.declared.tables.PlanTables.{PlanTables}
use Rattle.plan.specs.Head.{InRange, Counts}
use Rattle.plan.specs.Plan.{Plan, plan_of}
use Rattle.plan.specs.Tables.{table_plan}
use Rattle.plan.specs.Lent.{plan_by}
use Rattle.plan_facts.specs.Wired.{Wired}
use Rattle.load.specs.Load.{FilledIn, load_of}
use Rattle.load.proofs.Right.{lent_right, lent_plan, lent_tables, lent_ports, lent_past}
use Rattle.rules.specs.State.{start}
use Rattle.rules.specs.Calls.{Call, Visit, visit}
use Rattle.rules.specs.Ruled.{Good}
use Rattle.bytes_layout.specs.Rows.{past}
use Rattle.bytes_layout.specs.Offsets.{size}
use Rattle.bytes_layout.specs.Encode.{encode}
use Rattle.bytes_layout.specs.Decode.{decode}
use Rattle.check_rule.specs.Check.{check_of}
use Rattle.check_rule.proofs.Equal.{check_equal}
use Rattle.bytes_steps.specs.Acts.{Holds, Acts}
use Rattle.bytes_steps.specs.Counts.{state_size, size_by}
use Rattle.next_queue.specs.Lent.{LentOf}
use Rattle.next_queue.specs.Wiring.{WiringOf}
use Rattle.check_state.specs.Inspect.{checked_of}
use Rattle.call_common.specs.Visits.{Ready, Visits, Walked}
use Rattle.call_start.specs.Starting.{Started}
use Rattle.claims.specs.Calls.{given, is_state, on_state, start_on, call_on}
use Rattle.claims.proofs.Exact.{accepted_wired, accepted_range, is_state_lem}

-- the check is refusal 7's test
pub check_state : (pl : Plan) (b : List ℕ) → InRange pl.head → check_of pl b ≡ is_state pl b
unfolding is_state
check_state pl b range = check_equal pl range b

-- and its answer tells what it found
checked_true : {x : Result (Unit {0}) Refusal} {u : Unit {0}} (t : Bool) → x ≡ checked_of t → x ≡ Ok u → t ≡ true
checked_true true e f = refl
checked_true false e f = cc

checked_false : {x : Result (Unit {0}) Refusal} {w : Refusal} (t : Bool) → x ≡ checked_of t → x ≡ Err w → t ≡ false
checked_false true e f = cc
checked_false false e f = refl

module _ (p b : List ℕ) {l : Result Head Refusal} (known : l ≡ load_of p) where
  -- Load's refusal is passed up
  pub not_loaded : (c : Call) (w v : Refusal) → l ≡ Err w → v ≡ w → given (Refused v) b ≡ call_on p c b
  unfolding call_on
  not_loaded c w v e f = rw (← known, e, f)

  pub not_loaded_start : (w v : Refusal) → l ≡ Err w → v ≡ w → given (Refused v) b ≡ start_on p b
  unfolding start_on
  not_loaded_start w v e f = rw (← known, e, f)

  module _ (h : Head) (told : l ≡ Ok h) (pl : Plan) (same : plan_of p ≡ pl) where
    -- what an accepted plan is
    pub plan_wired : Wired pl
    plan_wired = subst Wired same (accepted_wired p h (sym known ∙ told))

    pub plan_range : InRange pl.head
    plan_range = subst (λ (x : Plan). InRange x.head) same (accepted_range p h (sym known ∙ told))

    -- no state
    pub no_state : (c : Call) → check_of pl b ≡ false → given (Refused NotState) b ≡ call_on p c b
    unfolding call_on on_state
    no_state c e = rw (← known, told, same, ← check_state pl b plan_range, e)

    -- a state's bytes
    pub state_held : check_of pl b ≡ true → Holds pl (Good pl) b
    state_held e =
        let g = is_state_lem pl plan_wired plan_range b (sym (check_state pl b plan_range) ∙ e) in
        record { state = decode pl b; rest = past (size pl) b; fit = g.0; same = g.1 }

    -- and the call's own code
    pub call_done : (c : Call) (x : Answer) (d : List ℕ) → check_of pl b ≡ true → Acts pl c b x d
        → given x d ≡ call_on p c b
    unfolding call_on on_state
    call_done c x d e a =
        let g = is_state_lem pl plan_wired plan_range b (sym (check_state pl b plan_range) ∙ e) in
        rw (← known, told, same, ← check_state pl b plan_range, e)
        (ap₂ given (a.answer (decode pl b) (past (size pl) b) g.0 g.1)
        (a.bytes (decode pl b) (past (size pl) b) g.0 g.1))

    -- Start
    pub start_short : length b < size pl → given (Refused NotState) b ≡ start_on p b
    unfolding start_on
    start_short e = rw (← known, told, same, lt-ltb (length b) (size pl) e)

    pub start_done : (d : List ℕ) → size pl ≤ length b → d ≡ encode pl (start pl) (past (size pl) b)
        → given Done d ≡ start_on p b
    unfolding start_on
    start_done d e f = rw (← known, told, same, le-ltb (length b) (size pl) e) (ap (given Done) f)

checked_which : {x : Result (Unit {0}) Refusal} {w : Refusal} (t : Bool) → x ≡ checked_of t → x ≡ Err w → w ≡ NotState
checked_which true e f = cc
checked_which false e f = cc

table_head : (h : Head) (t : PlanTables) → (plan_by h t).head ≡ h
unfolding table_plan
table_head h t = refl

-- Load's refusal is passed up
module _ {p : List ℕ} {l : Result Head Refusal} {t : PlanTables} (f : FilledIn p l t) {w : Refusal} (told : l ≡ Err w)
    (b : List ℕ) where
  pub unloaded : (c : Call) → given (Refused w) b ≡ call_on p c b
  unloaded c = not_loaded p b f.answer c w w told refl

  pub unloaded_start : given (Refused w) b ≡ start_on p b
  unloaded_start = not_loaded_start p b f.answer w w told refl

module _ {p : List ℕ} {h : Head} {l : Result Head Refusal} {t : PlanTables} (f : FilledIn p l t) (told : l ≡ Ok h) where
  -- ---- what an accepted plan and its tables are
  same : plan_of p ≡ plan_by h t
  same = lent_plan f told

  pub range : InRange h
  range = subst InRange (table_head h t) (plan_range p p f.answer h told (plan_by h t) same)

  pub counts : Counts h
  counts = (range.routers.1, range.actives.1, range.passives.1)

  pub lent : LentOf h t
  lent =
      record {
        range = range;
        tables = lent_tables f told;
        sizes = (lent_right f told).walks;
        ports = lent_ports f told;
        past = lent_past f told;
      }

  pub wired : WiringOf h t
  unfolding table_plan
  wired = record { range = range; wired = lent.tables.chart.wired; ports = lent.tables.chart.ports }

  -- ---- the check's answer
  module _ {b : List ℕ} {x : Result (Unit {0}) Refusal} (check : x ≡ checked_of (check_of (plan_by h t) b)) where
    -- no state
    pub unfit : {w : Refusal} → x ≡ Err w → (c : Call) → given (Refused w) b ≡ call_on p c b
    unfit e c =
        rw (checked_which _ check e) (no_state p b f.answer h told (plan_by h t) same c (checked_false _ check e))

    -- a state's bytes
    module _ {u : Unit {0}} (fit : x ≡ Ok u) where
      pub held : Holds (plan_by h t) (Good (plan_by h t)) b
      held = state_held p b f.answer h told (plan_by h t) same (checked_true _ check fit)

      pub ready : Ready h b
      ready = record { plan = plan_by h t; head = table_head h t; held = held }

      -- and the call's own code
      pub turned : {c : Call} {x : Answer} {d : List ℕ} → Acts (plan_by h t) c b x d → given x d ≡ call_on p c b
      turned a = call_done p b f.answer h told (plan_by h t) same _ _ _ (checked_true _ check fit) a

      pub visited : {v : Visit} {x : Answer} {d : List ℕ} → Visits h v b x d → given x d ≡ call_on p (visit v) b
      visited a = turned (a.acts _ (table_head h t))

      pub walked : {v : Visit} {x : Answer} {d : List ℕ} → Walked h t.lengths v b x d
          → given x d ≡ call_on p (visit v) b
      walked a = turned (a.acts _ (table_head h t) lent.sizes)

  -- ---- Start
  module _ {n : ℕ} (e : n ≡ state_size h) where
    same_size : size (plan_by h t) ≡ n
    same_size = size_by (plan_by h t) ∙ ap state_size (table_head h t) ∙ sym e

    pub short : (b : List ℕ) → length b < n → given (Refused NotState) b ≡ start_on p b
    short b s = start_short p b f.answer h told (plan_by h t) same (rw same_size s)

    pub started : (b d : List ℕ) → n ≤ length b → Started h b d → given Done d ≡ start_on p b
    started b d s made =
        start_done p b f.answer h told (plan_by h t) same d (rw same_size s) (made.starts _ (table_head h t))
