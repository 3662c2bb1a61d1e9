-- The words of demand 3: an empty network, a packet on its way, a move, and whole rounds.
use Rattle.std.specs.Prelude.{◌≡◌, ◌⊎◌, ◌≢◌, Bool, true, false, List, [], ◌∷◌, ℕ, ◌≤◌, ◌<◌, length}
use Rattle.basis.specs.Choice.{pick}
use Rattle.packets.specs.declared.Packet.{Packet}
use Rattle.packets.specs.declared.Wire.TheVariants.{Empty, Full}
use Rattle.packets.specs.declared.Phase.{Phase}
use Rattle.packets.specs.declared.Phase.TheVariants.{Read, Write}
use Rattle.packets.specs.declared.Answer.{Answer}
use Rattle.packets.specs.declared.Answer.TheVariants.{Refused, Done, Shows, Holds, Remains}
use Rattle.plan.specs.declared.Joint.TheVariants.{Nothing}
use Rattle.plan.specs.Plan.{Plan, R, A, P}
use Rattle.plan_queues.specs.Queue.{Queue, passive_in, Exists}
use Rattle.plan_queues.specs.Role.{Role, sending, receiving, handling, passing, role}
use Rattle.plan_queues.specs.Feeds.{Output, of_active, of_passive, of_side, to_unit, from_unit}
use Rattle.rules.specs.Capacity.{capacity}
use Rattle.rules.specs.State.{State}
use Rattle.rules.specs.Valid.{Drives}
use Rattle.rules.specs.Calls.{Call, turn, visit, is_phase}

-- 'no queue holds more than its capacity'
abbrev pub Within : Plan → State → Type 0
Within pl s = (q : Queue) → Exists pl q → length (s.lines.queue q) ≤ capacity pl.head q

-- 'A wire enters each joined side and each interface from its neighbour; one leads from router to unit, one back':
-- an output has one, but for a side that is not joined
abbrev pub HasWire : Plan → Output → Type 0
HasWire pl (of_active a) = a < A pl
HasWire pl (of_passive p) = p < P pl
HasWire pl (of_side r o) = (r < R pl) × (o < 4) × (pl.joint r o ≢ Nothing)
HasWire pl (to_unit r) = r < R pl
HasWire pl (from_unit r) = r < R pl

-- 'every queue and wire is empty'
pub record Quiet (pl : Plan) (s : State) : Type 0 where
  pub queues : (q : Queue) → Exists pl q → s.lines.queue q ≡ []
  pub wires : (o : Output) → HasWire pl o → s.links.wire o ≡ Empty

-- 'an interface's in-queue'
abbrev pub is_in_queue_as : Role → Bool
is_in_queue_as sending = false
is_in_queue_as receiving = true
is_in_queue_as (handling r i) = false
is_in_queue_as passing = false

abbrev pub is_in_queue : Queue → Bool
is_in_queue q = is_in_queue_as (role q)

-- 'a packet is in a wire, or in a queue other than an interface's in-queue'
abbrev pub UnderWay : Plan → State → Type 0
UnderWay pl s =
    ((o : Output) × (x : Packet) × Drives pl o × (s.links.wire o ≡ Full x))
    ⊎ ((q : Queue) × (x : Packet) × (rest : List Packet) × Exists pl q × (is_in_queue q ≡ false)
    × (s.lines.queue q ≡ x ∷ rest))

-- 'no passive in-queue is full'
abbrev pub PassiveRoom : Plan → State → Type 0
PassiveRoom pl s = (p : ℕ) → p < P pl → length (s.lines.queue (passive_in p)) < capacity pl.head (passive_in p)

-- 'at the start of a round': 'any state in READ', with the condition of demand 3's last part
pub record Waits (pl : Plan) (s : State) : Type 0 where
  pub phase : s.clock.phase ≡ Read
  pub packet : UnderWay pl s
  pub room : PassiveRoom pl s

-- 'that call takes it out of the queue or wire it was in': told by the states before and after it
abbrev pub Moved : Plan → State → State → Type 0
Moved pl s t =
    ((o : Output) × (x : Packet) × HasWire pl o × (s.links.wire o ≡ Full x) × (t.links.wire o ≡ Empty))
    ⊎ ((q : Queue) × Exists pl q × (length (t.lines.queue q) < length (s.lines.queue q)))

-- 'by a Read, an Execute or a Write'
abbrev pub is_timed : Call → Bool
is_timed (turn x) = true
is_timed (visit v) = false

-- 'A whole round is one accepted Read, Execute and Write': an accepted Write ends one
abbrev pub is_done : Answer → ℕ
is_done (Refused w) = 0
is_done Done = 1
is_done (Shows x) = 0
is_done (Holds e) = 0
is_done (Remains x) = 0

-- an accepted Read, Execute or Write of that phase
abbrev pub turns_call : Phase → Call → Answer → ℕ
turns_call x (turn y) a = pick (is_phase y x) (is_done a) 0
turns_call x (visit v) a = 0

abbrev pub ends_round : Call → Answer → ℕ
ends_round c a = turns_call Write c a
