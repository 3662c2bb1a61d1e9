-- What every state along a list has, in three parts. The core holds at every moment, also inside a phase: ranges,
-- places, credits, allowances, one free entry a side. The shape depends on the phase: empty wires, choices and flags.
-- What outputs remember is in range. Every call keeps them, from every valid state (proofs/Keeps). Together with
-- connections that are tied to the table they are what refusal 7 asks (proofs/Core).
use Rattle.std.specs.Prelude.{◌≡◌, ◌≢◌, true, false, [], ℕ, ◌+◌, ◌≤◌, ◌<◌, length}
use Rattle.std.proofs.Math.Option.{some}
use Rattle.packets.specs.declared.Packet.{Packet}
use Rattle.packets.specs.declared.Wire.TheVariants.{Empty, Full}
use Rattle.packets.specs.declared.Phase.TheVariants.{Read, Execute, Write}
use Rattle.packets.specs.declared.Entry.TheVariants.{Free, Booked}
use Rattle.plan.specs.Plan.{Plan, R, A, S}
use Rattle.plan_queues.specs.Queue.{Queue, Q, Exists}
use Rattle.plan_queues.specs.Feeds.{Output}
use Rattle.rules.specs.Capacity.{capacity}
use Rattle.rules.specs.Outputs.{senders}
use Rattle.rules.specs.State.{State, nobody, sender, start_allowance}
use Rattle.rules.specs.Execute.{candidate}
use Rattle.rules.specs.Write.{of_rank}
use Rattle.rules.specs.Valid.{Lined, Drives, Carries, bit, on_wires, total, spends, fed, Turns, Bounded}

-- ---- the core's parts
abbrev pub SlotIn : Plan → State → Type 0
SlotIn pl s = s.clock.slot.0 < S pl

abbrev pub EntriesIn : Plan → State → Type 0
EntriesIn pl s = (r o t i : ℕ) → r < R pl → o < 4 → t < S pl → s.table r o t ≡ Booked i → i < 4

-- room, flags and credits of the queues that no wire feeds: out-queues, and U and K of a side that is not joined
abbrev pub OutCapacities : Plan → State → Type 0
OutCapacities pl s = (q : Queue) → Exists pl q → fed pl q ≡ false → length (s.lines.queue q) ≤ capacity pl.head q

abbrev pub Places : Plan → State → Type 0
Places pl s = (q : Queue) → Exists pl q → Lined pl q (s.lines.handled q) (s.lines.queue q)

abbrev pub Wires : Plan → State → Type 0
Wires pl s = (o : Output) → Drives pl o → (x : Packet) → s.links.wire o ≡ Full x → Carries pl o x

abbrev pub OutFlags : Plan → State → Type 0
OutFlags pl s = (q : Queue) → Exists pl q → fed pl q ≡ false → s.flow.flag q ≡ false

abbrev pub Marks : Plan → State → Type 0
Marks pl s = (q : Queue) → Exists pl q → s.lines.handled q ≡ true → (r i : ℕ) × (q ≡ Q r i) × (s.lines.queue q ≢ [])

abbrev pub FreeEntry : Plan → State → Type 0
FreeEntry pl s = (r o : ℕ) → r < R pl → o < 4 → (t : ℕ) × (t < S pl) × (s.table r o t ≡ Free)

-- credit, queued packets, packets on wires and the raised flag of a queue
unfoldable pub account : Plan → Queue → State → ℕ
account pl q s = (s.flow.credit q).0 + length (s.lines.queue q) + on_wires pl q s + bit (s.flow.flag q)

abbrev pub Credits : Plan → State → Type 0
Credits pl s = (q : Queue) → Exists pl q → fed pl q ≡ true → account pl q s ≡ capacity pl.head q

abbrev pub OutCredits : Plan → State → Type 0
OutCredits pl s = (q : Queue) → Exists pl q → fed pl q ≡ false → (s.flow.credit q).0 ≡ capacity pl.head q

abbrev pub Allowances : Plan → State → Type 0
Allowances pl s = (a : ℕ) → a < A pl → s.flow.allowance a + total pl (spends a) s ≡ start_allowance pl

pub record Core (pl : Plan) (s : State) : Type 0 where
  pub slot : SlotIn pl s
  pub entries : EntriesIn pl s
  pub out_capacities : OutCapacities pl s
  pub places : Places pl s
  pub wires : Wires pl s
  pub out_flags : OutFlags pl s
  pub marks : Marks pl s
  pub free_entry : FreeEntry pl s
  pub credits : Credits pl s
  pub out_credits : OutCredits pl s
  pub allowances : Allowances pl s
  pub bounded : Bounded pl s

-- ---- the shape's parts
abbrev pub WiresEmpty : Plan → State → Type 0
WiresEmpty pl s = (o : Output) → Drives pl o → s.links.wire o ≡ Empty

abbrev pub FlagsDown : Plan → State → Type 0
FlagsDown pl s = (q : Queue) → Exists pl q → s.flow.flag q ≡ false

abbrev pub NoChoices : Plan → State → Type 0
NoChoices pl s = (o : Output) → Drives pl o → s.links.choice o ≡ nobody

-- an output's choice can be sent: a candidate whose flag is down
pub record Sendable (pl : Plan) (s : State) (o : Output) (k : ℕ) : Type 0 where
  pub queue : Queue
  pub rank : of_rank (senders o) k ≡ some queue
  pub ready : candidate pl s o queue ≡ true
  pub down : s.flow.flag queue ≡ false

abbrev pub ChoicesSendable : Plan → State → Type 0
ChoicesSendable pl s = (o : Output) (k : ℕ) → Drives pl o → s.links.choice o ≡ sender k → Sendable pl s o k

-- by phase: in READ no choices; in EXECUTE no choices, wires empty, flags down; in WRITE wires empty, choices of
-- candidates with flags down
pub data Shape (pl : Plan) (s : State) : Type 0 where
  in_read : s.clock.phase ≡ Read → NoChoices pl s → Shape pl s
  in_execute : s.clock.phase ≡ Execute → NoChoices pl s → WiresEmpty pl s → FlagsDown pl s → Shape pl s
  in_write : s.clock.phase ≡ Write → WiresEmpty pl s → ChoicesSendable pl s → Shape pl s

-- a core with its shape, and what outputs remember in range: what a state has
pub record Inv (pl : Plan) (s : State) : Type 0 where
  pub core : Core pl s
  pub shape : Shape pl s
  pub turns : Turns pl s
