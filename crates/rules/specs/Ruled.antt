-- Demand 3 on the rules alone: what is to be shown of every list of calls on the abstract state. The claim on bytes
-- follows from it.
use Rattle.std.specs.Prelude.{◌≡◌, true, ◌&&◌, List, [], ◌∷◌, ◌++◌, ℕ, ◌+◌, ◌≤◌, eqb}
use Rattle.basis.specs.Choice.{pick}
use Rattle.basis.specs.Among.{In}
use Rattle.packets.specs.declared.Kind.{Kind}
use Rattle.packets.specs.declared.Kind.TheVariants.{Setup, Tdown, Ack, Nack}
use Rattle.packets.specs.declared.Packet.{Packet}
use Rattle.packets.specs.declared.Answer.{Answer}
use Rattle.plan.specs.Plan.{Plan, S}
use Rattle.plan_queues.specs.Queue.{active_in}
use Rattle.rules.specs.Connections.{Connection, connection_of, same_connection, MadeBy}
use Rattle.rules.specs.State.{State, start, has_connection}
use Rattle.rules.specs.Calls.{Visit, of_launch, of_reply, of_look, of_drop, of_close, of_entry, of_remaining, Call}
use Rattle.rules.specs.Calls.{turn, visit}
use Rattle.rules.specs.Calls.{call}
use Rattle.rules.specs.Accepted.{if_done, accept}
use Rattle.rules.specs.Valid.{Valid, Bounded}
use Rattle.rules.specs.Progress.{Quiet, Waits, Moved, is_timed, is_done, ends_round}

-- the state after the calls
abbrev pub ruled_after : Plan → List Call → State → State
ruled_after pl [] s = s
ruled_after pl (c ∷ cs) s = ruled_after pl cs (call pl c s).state

-- the connections accepted and not closed since, told by the calls and the states before them
abbrev pub accepted_after : Plan → List Call → State → List Connection → List Connection
accepted_after pl [] s acc = acc
accepted_after pl (c ∷ cs) s acc = accepted_after pl cs (call pl c s).state (accept pl c s (call pl c s).answer acc)

-- the whole rounds that end in the list
abbrev pub rounds : Plan → List Call → State → ℕ
rounds pl [] s = 0
rounds pl (c ∷ cs) s = ends_round c (call pl c s).answer + rounds pl cs (call pl c s).state

-- accepted Launches of a triple: in one call, in a list
abbrev pub launches_visit : Connection → Visit → Answer → ℕ
launches_visit d (of_launch a q t) x = pick (eqb a d.active && eqb q d.passive && eqb t d.start.0) (is_done x) 0
launches_visit d (of_reply q c) x = 0
launches_visit d (of_look a) x = 0
launches_visit d (of_drop a) x = 0
launches_visit d (of_close a q t) x = 0
launches_visit d (of_entry r o t) x = 0
launches_visit d of_remaining x = 0

abbrev pub launches_call : Connection → Call → Answer → ℕ
launches_call d (turn x) a = 0
launches_call d (visit v) a = launches_visit d v a

abbrev pub launches : Plan → Connection → List Call → State → ℕ
launches pl d [] s = 0
launches pl d (c ∷ cs) s = launches_call d c (call pl c s).answer + launches pl d cs (call pl c s).state

-- accepted Drops of a triple's ACK, closed since or not: in one call, in a list
abbrev pub accepts_kind : Plan → Connection → Kind → Packet → ℕ
accepts_kind pl d Setup x = 0
accepts_kind pl d Tdown x = 0
accepts_kind pl d Ack x = pick (same_connection (connection_of pl x) d) 1 0
accepts_kind pl d Nack x = 0

abbrev pub accepts_head : Plan → Connection → List Packet → ℕ
accepts_head pl d [] = 0
accepts_head pl d (x ∷ rest) = accepts_kind pl d x.kind x

abbrev pub accepts_visit : Plan → Connection → Visit → State → Answer → ℕ
accepts_visit pl d (of_launch a q t) s x = 0
accepts_visit pl d (of_reply q c) s x = 0
accepts_visit pl d (of_look a) s x = 0
accepts_visit pl d (of_drop a) s x = if_done x (accepts_head pl d (s.lines.queue (active_in a))) 0
accepts_visit pl d (of_close a q t) s x = 0
accepts_visit pl d (of_entry r o t) s x = 0
accepts_visit pl d of_remaining s x = 0

abbrev pub accepts_call : Plan → Connection → Call → State → Answer → ℕ
accepts_call pl d (turn x) s a = 0
accepts_call pl d (visit v) s a = accepts_visit pl d v s a

abbrev pub acceptances : Plan → Connection → List Call → State → ℕ
acceptances pl d [] s = 0
acceptances pl d (c ∷ cs) s = accepts_call pl d c s (call pl c s).answer + acceptances pl d cs (call pl c s).state

-- the state's connections are those of a list
pub record Remembers (cs : List Connection) (s : State) : Type 0 where
  pub has : (c : Connection) → In c cs → has_connection s c ≡ true
  pub only : (c : Connection) → has_connection s c ≡ true → In c cs

-- a call of the list that takes a packet out of its queue or wire
pub record Moves (pl : Plan) (cs : List Call) (s : State) : Type 0 where
  pub before : List Call
  pub at : Call
  pub rest : List Call
  pub split : cs ≡ before ++ (at ∷ rest)
  pub timed : is_timed at ≡ true
  pub moved : Moved pl (ruled_after pl before s) (call pl at (ruled_after pl before s)).state

-- a valid state that is blank outside the plan's places
pub record Good (pl : Plan) (s : State) : Type 0 where
  pub valid : Valid pl s
  pub bounded : Bounded pl s

-- ---- what is to be shown
pub record Ruled (pl : Plan) : Type 1 where
  -- what holds at the start and is kept by every call; such a state is not refused 7
  pub Reached : State → Type 0
  pub starts : Reached (start pl)
  pub keeps : (c : Call) (s : State) → Reached s → Reached (call pl c s).state
  pub good : (s : State) → Reached s → Good pl s
  pub table : (cs : List Call) → Quiet pl (ruled_after pl cs (start pl))
      → MadeBy pl (accepted_after pl cs (start pl) []) (ruled_after pl cs (start pl)).table
  -- the connections accepted and not closed since are those that the state keeps
  pub told : (cs : List Call) → Remembers (accepted_after pl cs (start pl) []) (ruled_after pl cs (start pl))
  -- from every valid state
  pub progress : (s : State) → Good pl s → Waits pl s → (cs : List Call) → S pl ≤ rounds pl cs s → Moves pl cs s
  pub launched : (cs : List Call) (d : Connection)
      → acceptances pl d cs (start pl) ≤ launches pl d cs (start pl)
