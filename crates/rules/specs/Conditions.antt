-- The conditions of the refusals 8 to 16, call by call, in the documents' words and order. claims/proofs/Tests shows
-- that the tests of specs/Calls hold exactly where these do.
use Rattle.std.specs.Prelude.{◌≡◌, ◌⊎◌, ◌≢◌, true, false, List, [], ◌∷◌, ◌≤◌, length}
use Rattle.kinds.specs.declared.Refusal.TheVariants.{WrongPhase, BadNumber, NotServed, NoAllowance, QueueFull}
use Rattle.kinds.specs.declared.Refusal.TheVariants.{QueueEmpty, FlagUp, Unmarked, NotAccepted}
use Rattle.kinds.specs.Conditions.{Condition, condition}
use Rattle.packets.specs.declared.Kind.TheVariants.{Nack}
use Rattle.packets.specs.declared.Packet.{Packet}
use Rattle.packets.specs.declared.Phase.TheVariants.{Read, Write}
use Rattle.plan.specs.Plan.{Plan, R, A, P, S}
use Rattle.plan_walks.specs.Served.{Served}
use Rattle.plan_queues.specs.Queue.{Queue, active_out, active_in, passive_in, passive_out}
use Rattle.rules.specs.Capacity.{capacity}
use Rattle.rules.specs.State.{State}
use Rattle.rules.specs.Calls.{of_launch, of_reply, of_look, of_drop, of_close, of_entry, of_remaining, Call, turn}
use Rattle.rules.specs.Calls.{visit}

-- 'out-queue full'
abbrev pub QueueIsFull : Plan → Queue → State → Type 0
QueueIsFull pl q s = capacity pl.head q ≤ length (s.lines.queue q)

-- 'head is an unmarked NACK': 'A NACK with hub 0 is marked'
pub record UnmarkedHead (q : Queue) (s : State) : Type 0 where
  pub head : Packet
  pub rest : List Packet
  pub line : s.lines.queue q ≡ head ∷ rest
  pub kind : head.kind ≡ Nack
  pub hub : head.hub.0 ≢ 0

abbrev pub conditions : Plan → Call → State → List Condition
-- '**Read, Execute, Write**: 8 another phase'
conditions pl (turn x) s = condition WrongPhase (s.clock.phase ≢ x) ∷ []
-- '**Launch** (active, passive, slot): 8 not READ; 9 a number out of range; 10 pair not served; 11 allowance 0; 12
-- out-queue full'
conditions pl (visit (of_launch a p t)) s =
    condition WrongPhase (s.clock.phase ≢ Read)
    ∷ condition BadNumber ((A pl ≤ a) ⊎ (P pl ≤ p) ⊎ (S pl ≤ t))
    ∷ condition NotServed (Served pl a p → ⊥)
    ∷ condition NoAllowance (s.flow.allowance a ≡ 0)
    ∷ condition QueueFull (QueueIsFull pl (active_out a) s)
    ∷ []
-- '**Reply** (passive, 1 accept or 0 decline): 8 not WRITE; 9 number or choice out of range; 14 in-queue flag up; 13
-- in-queue empty; 12 out-queue full'
conditions pl (visit (of_reply p c)) s =
    condition WrongPhase (s.clock.phase ≢ Write)
    ∷ condition BadNumber ((P pl ≤ p) ⊎ ((c ≢ 0) × (c ≢ 1)))
    ∷ condition FlagUp (s.flow.flag (passive_in p) ≡ true)
    ∷ condition QueueEmpty (s.lines.queue (passive_in p) ≡ [])
    ∷ condition QueueFull (QueueIsFull pl (passive_out p) s)
    ∷ []
-- 'Look gives 9 and 13'
conditions pl (visit (of_look a)) s =
    condition BadNumber (A pl ≤ a) ∷ condition QueueEmpty (s.lines.queue (active_in a) ≡ []) ∷ []
-- 'and Drop keeps Consume's 8, 9, 14, 13, 15': '8 not WRITE; 9; 14; 13; 15 head is an unmarked NACK'
conditions pl (visit (of_drop a)) s =
    condition WrongPhase (s.clock.phase ≢ Write)
    ∷ condition BadNumber (A pl ≤ a)
    ∷ condition FlagUp (s.flow.flag (active_in a) ≡ true)
    ∷ condition QueueEmpty (s.lines.queue (active_in a) ≡ [])
    ∷ condition Unmarked (UnmarkedHead (active_in a) s)
    ∷ []
-- 'Close (active, passive, start slot) in READ .. refuses 8, 9, 10, then 16 for a connection not accepted, then 12'
conditions pl (visit (of_close a p t)) s =
    condition WrongPhase (s.clock.phase ≢ Read)
    ∷ condition BadNumber ((A pl ≤ a) ⊎ (P pl ≤ p) ⊎ (S pl ≤ t))
    ∷ condition NotServed (Served pl a p → ⊥)
    ∷ condition NotAccepted (s.connections a p t ≡ false)
    ∷ condition QueueFull (QueueIsFull pl (active_out a) s)
    ∷ []
-- '**Entry** (router, side, slot): 9'
conditions pl (visit (of_entry r o t)) s = condition BadNumber ((R pl ≤ r) ⊎ (4 ≤ o) ⊎ (S pl ≤ t)) ∷ []
-- Remaining, for document 02 (n): none of its own
conditions pl (visit of_remaining) s = []
