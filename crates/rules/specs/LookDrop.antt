-- Document 02 (c), 'Look before dropping': what a program that shows the answer first may count on. A Look gave the
-- packet that an accepted Drop removes, and its numbers are those of the accepted connection, whatever other calls
-- stand between the two within the phase; and what Look shows stays until a Drop of that active or the phase's end.
-- From every state.
use Rattle.std.specs.Prelude.{◌≡◌, ◌≢◌, List, [], ◌∷◌, ℕ}
use Rattle.packets.specs.declared.Packet.{Packet}
use Rattle.packets.specs.declared.Answer.TheVariants.{Done, Shows}
use Rattle.plan.specs.Plan.{Plan}
use Rattle.plan_queues.specs.Queue.{active_in}
use Rattle.rules.specs.State.{State}
use Rattle.rules.specs.Visits.{noted}
use Rattle.rules.specs.Calls.{Call, look, drop, call}
use Rattle.rules.specs.Ruled.{ruled_after}

-- 'within the phase': after each call of the list the phase is as it was before it
abbrev pub WithinPhase : Plan → List Call → State → Type 0
WithinPhase pl [] s = record {}
WithinPhase pl (c ∷ cs) s =
    ((call pl c s).state.clock.phase ≡ s.clock.phase) × WithinPhase pl cs (call pl c s).state

-- no call of the list is a Drop of that active
abbrev pub NoDrop : ℕ → List Call → Type 0
NoDrop a [] = record {}
NoDrop a (c ∷ cs) = (c ≢ drop a) × NoDrop a cs

-- between two states the packet x leaves the active's in-queue, whose head it was; 'an ACK counts as accepted when
-- dropped, with the numbers of the packet': the connections are as after x, and only x, was noted
pub record Removes (pl : Plan) (a : ℕ) (x : Packet) (s t : State) : Type 0 where
  pub rest : List Packet
  pub before : s.lines.queue (active_in a) ≡ x ∷ rest
  pub after : t.lines.queue (active_in a) ≡ rest
  pub connections : t.connections ≡ (noted pl x s).connections

-- an accepted Drop, and a Look any calls before it within the phase: it gave the packet that the Drop removed
abbrev pub LookBeforeDrop : Plan → Type 0
LookBeforeDrop pl =
    (s : State) (a : ℕ) (between : List Call) → WithinPhase pl between s
    → (call pl (drop a) (ruled_after pl between s)).answer ≡ Done
    → (x : Packet) × ((call pl (look a) s).answer ≡ Shows x)
    × Removes pl a x (ruled_after pl between s) (call pl (drop a) (ruled_after pl between s)).state

-- two Looks within the phase, and no Drop of that active between them: they give the same
abbrev pub LookStays : Plan → Type 0
LookStays pl =
    (s : State) (a : ℕ) (between : List Call) → WithinPhase pl between s → NoDrop a between
    → (call pl (look a) (ruled_after pl between s)).answer ≡ (call pl (look a) s).answer
