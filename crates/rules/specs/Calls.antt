-- The calls. Each has its refusals in the documents' order and, where none applies, what it gives. A refusal leaves the
-- state.
use Rattle.std.specs.Prelude.{Bool, true, false, not, ◌&&◌, List, [], ◌∷◌, ℕ, eqb, ltb, leb}
use Rattle.std.proofs.Math.Option.{Option, none, some}
use Rattle.kinds.specs.declared.Refusal.{Refusal}
use Rattle.kinds.specs.declared.Refusal.TheVariants.{WrongPhase, BadNumber, NotServed, NoAllowance, QueueFull}
use Rattle.kinds.specs.declared.Refusal.TheVariants.{QueueEmpty, FlagUp, Unmarked, NotAccepted}
use Rattle.packets.specs.declared.Packet.{Packet}
use Rattle.packets.specs.declared.Phase.{Phase}
use Rattle.packets.specs.declared.Phase.TheVariants.{Read, Execute, Write}
use Rattle.packets.specs.declared.Answer.{Answer}
use Rattle.packets.specs.declared.Answer.TheVariants.{Refused, Done, Shows, Holds, Remains}
use Rattle.plan.specs.Plan.{Plan, R, A, P, S}
use Rattle.plan_walks.specs.Served.{served}
use Rattle.plan_queues.specs.Queue.{active_out, active_in, passive_in, passive_out}
use Rattle.rules.specs.State.{State}
use Rattle.rules.specs.Read.{do_read}
use Rattle.rules.specs.Execute.{do_execute, has_room}
use Rattle.rules.specs.Write.{do_write}
use Rattle.rules.specs.Visits.{launched, reply_kind, replied, dropped, closed}
use Rattle.rules.specs.Visits.{is_empty, head_unmarked}
use Rattle.rules.specs.Remaining.{remaining_in}
use Rattle.rules.specs.Guards.{Guard, guard, refusal_of}

-- ---- which call
-- the calls between the phases: of the interfaces, and of who looks at the table
pub data Visit : Type 0 where
  of_launch : ℕ → ℕ → ℕ → Visit
  of_reply : ℕ → ℕ → Visit
  of_look : ℕ → Visit
  of_drop : ℕ → Visit
  of_close : ℕ → ℕ → ℕ → Visit
  of_entry : ℕ → ℕ → ℕ → Visit
  of_remaining : Visit

-- 'the calls Read, Execute, Write', which turn the phase, and the others
pub data Call : Type 0 where
  turn : Phase → Call
  visit : Visit → Call

abbrev pub read : Call
read = turn Read

abbrev pub execute : Call
execute = turn Execute

abbrev pub write : Call
write = turn Write

-- Launch (active, passive, slot)
abbrev pub launch : ℕ → ℕ → ℕ → Call
launch a p t = visit (of_launch a p t)

-- Reply (passive, 1 accept or 0 decline)
abbrev pub reply : ℕ → ℕ → Call
reply p c = visit (of_reply p c)

-- Look (active)
abbrev pub look : ℕ → Call
look a = visit (of_look a)

-- Drop (active)
abbrev pub drop : ℕ → Call
drop a = visit (of_drop a)

-- Close (active, passive, start slot)
abbrev pub close : ℕ → ℕ → ℕ → Call
close a p t = visit (of_close a p t)

-- Entry (router, side, slot)
abbrev pub entry : ℕ → ℕ → ℕ → Call
entry r o t = visit (of_entry r o t)

-- Remaining
abbrev pub remaining : Call
remaining = visit of_remaining

-- ---- what a call gives: its answer, and the state that it leaves
pub record Outcome : Type 0 where
  pub answer : Answer
  pub state : State

abbrev pub gives : Answer → State → Outcome
gives a s = record { answer = a; state = s }

abbrev pub is_phase : Phase → Phase → Bool
is_phase Read Read = true
is_phase Read Execute = false
is_phase Read Write = false
is_phase Execute Read = false
is_phase Execute Execute = true
is_phase Execute Write = false
is_phase Write Read = false
is_phase Write Execute = false
is_phase Write Write = true

-- ---- the refusals of each call, in order
-- '**Launch** (active, passive, slot): 8 not READ; 9 a number out of range; 10 pair not served; 11 allowance 0; 12
-- out-queue full'
abbrev pub launch_guards : Plan → ℕ → ℕ → ℕ → State → List Guard
launch_guards pl a p t s =
    guard WrongPhase (not (is_phase s.clock.phase Read))
    ∷ guard BadNumber (not (ltb a (A pl) && ltb p (P pl) && ltb t (S pl)))
    ∷ guard NotServed (not (served pl a p))
    ∷ guard NoAllowance (eqb (s.flow.allowance a) 0)
    ∷ guard QueueFull (not (has_room pl (active_out a) s))
    ∷ []

-- '**Reply** (passive, 1 accept or 0 decline): 8 not WRITE; 9 number or choice out of range; 14 in-queue flag up; 13
-- in-queue empty; 12 out-queue full'
abbrev pub reply_guards : Plan → ℕ → ℕ → State → List Guard
reply_guards pl p c s =
    guard WrongPhase (not (is_phase s.clock.phase Write))
    ∷ guard BadNumber (not (ltb p (P pl) && leb c 1))
    ∷ guard FlagUp (s.flow.flag (passive_in p))
    ∷ guard QueueEmpty (is_empty (s.lines.queue (passive_in p)))
    ∷ guard QueueFull (not (has_room pl (passive_out p) s))
    ∷ []

-- Document 02 (c): 'Consume becomes two calls. .. Look gives 9 and 13'
abbrev pub look_guards : Plan → ℕ → State → List Guard
look_guards pl a s =
    guard BadNumber (not (ltb a (A pl))) ∷ guard QueueEmpty (is_empty (s.lines.queue (active_in a))) ∷ []

-- 'and Drop keeps Consume's 8, 9, 14, 13, 15': '8 not WRITE; 9; 14; 13; 15 head is an unmarked NACK'
abbrev pub drop_guards : Plan → ℕ → State → List Guard
drop_guards pl a s =
    guard WrongPhase (not (is_phase s.clock.phase Write))
    ∷ guard BadNumber (not (ltb a (A pl)))
    ∷ guard FlagUp (s.flow.flag (active_in a))
    ∷ guard QueueEmpty (is_empty (s.lines.queue (active_in a)))
    ∷ guard Unmarked (head_unmarked (s.lines.queue (active_in a)))
    ∷ []

-- Document 02 (a): 'Close (active, passive, start slot) in READ .. refuses 8, 9, 10, then 16 for a connection not
-- accepted, then 12'
abbrev pub close_guards : Plan → ℕ → ℕ → ℕ → State → List Guard
close_guards pl a p t s =
    guard WrongPhase (not (is_phase s.clock.phase Read))
    ∷ guard BadNumber (not (ltb a (A pl) && ltb p (P pl) && ltb t (S pl)))
    ∷ guard NotServed (not (served pl a p))
    ∷ guard NotAccepted (not (s.connections a p t))
    ∷ guard QueueFull (not (has_room pl (active_out a) s))
    ∷ []

-- '**Entry** (router, side, slot): 9'
abbrev pub entry_guards : Plan → ℕ → ℕ → ℕ → List Guard
entry_guards pl r o t = guard BadNumber (not (ltb r (R pl) && ltb o 4 && ltb t (S pl))) ∷ []

-- '**Read, Execute, Write**: 8 another phase'
abbrev pub guards : Plan → Call → State → List Guard
guards pl (turn x) s = guard WrongPhase (not (is_phase s.clock.phase x)) ∷ []
guards pl (visit (of_launch a p t)) s = launch_guards pl a p t s
guards pl (visit (of_reply p c)) s = reply_guards pl p c s
guards pl (visit (of_look a)) s = look_guards pl a s
guards pl (visit (of_drop a)) s = drop_guards pl a s
guards pl (visit (of_close a p t)) s = close_guards pl a p t s
guards pl (visit (of_entry r o t)) s = entry_guards pl r o t
-- Remaining has none of its own
guards pl (visit of_remaining) s = []

-- ---- what each call gives where no refusal applies
abbrev pub phase_step : Plan → Phase → State → State
phase_step pl Read s = do_read pl s
phase_step pl Execute s = do_execute pl s
phase_step pl Write s = do_write pl s

-- 'Look returns the head'; an empty in-queue has been refused
abbrev pub shown : List Packet → Answer
shown [] = Refused QueueEmpty
shown (x ∷ rest) = Shows x

abbrev pub accepted : Plan → Call → State → Outcome
accepted pl (turn x) s = gives Done (phase_step pl x s)
accepted pl (visit (of_launch a p t)) s = gives Done (launched a p t s)
accepted pl (visit (of_reply p c)) s = gives Done (replied p (reply_kind c) (s.lines.queue (passive_in p)) s)
-- 'in any phase and changes nothing'
accepted pl (visit (of_look a)) s = gives (shown (s.lines.queue (active_in a))) s
-- 'Drop removes it and returns nothing'
accepted pl (visit (of_drop a)) s = gives Done (dropped pl a (s.lines.queue (active_in a)) s)
accepted pl (visit (of_close a p t)) s = gives Done (closed pl a p t s)
accepted pl (visit (of_entry r o t)) s = gives (Holds (s.table r o t)) s
-- N and 256 × S × N
accepted pl (visit of_remaining) s = gives (Remains (remaining_in pl s)) s

-- ---- a call
abbrev pub decided : Option Refusal → State → Outcome → Outcome
decided none s o = o
decided (some w) s o = gives (Refused w) s

unfoldable pub call : Plan → Call → State → Outcome
call pl c s = decided (refusal_of (guards pl c s)) s (accepted pl c s)
