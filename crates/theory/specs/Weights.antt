-- Packets weighed by their places, summed over all queues and wires.
use Rattle.std.specs.Prelude.{Bool, List, [], ◌∷◌, ℕ, ◌+◌}
use Rattle.std.proofs.Math.Option.{Option, none, some}
use Rattle.packets.specs.declared.Packet.{Packet}
use Rattle.packets.specs.declared.Wire.{Wire}
use Rattle.packets.specs.declared.Wire.TheVariants.{Empty, Full}
use Rattle.plan.specs.Plan.{Plan}
use Rattle.plan_queues.specs.Queue.{Queue, queues, queue_at}
use Rattle.plan_queues.specs.Feeds.{Output, Place, in_queue, head_place}
use Rattle.rules.specs.Outputs.{next_by, outputs, output_at}
use Rattle.rules.specs.State.{State}
use Rattle.rules.specs.Valid.{sum, in_all}

-- what a packet weighs at a place
abbrev pub Weight : Type 0
Weight = Place → Packet → ℕ

-- a weight that does not depend on the place
abbrev pub anywhere : (Packet → ℕ) → Weight
anywhere w at x = w x

-- the line of a queue: its head where the handled mark puts it, the others in the queue
unfoldable pub in_line : Weight → Queue → Bool → List Packet → ℕ
in_line w q done [] = 0
in_line w q done (x ∷ rest) = w (head_place done q) x + in_all (w (in_queue q)) rest

-- a packet on a wire weighs as in its next queue
abbrev pub in_next : Weight → Packet → Option Queue → ℕ
in_next w x none = 0
in_next w x (some y) = w (in_queue y) x

-- an output's wire
unfoldable pub on_wire : Plan → Weight → Output → Wire → ℕ
on_wire pl w o Empty = 0
on_wire pl w o (Full x) = in_next w x (next_by pl o x)

-- a queue's line by the handled marks and the queues of a state, an output's wire by its wires
abbrev pub line_of : Weight → (Queue → Bool) → (Queue → List Packet) → Queue → ℕ
line_of w handled queue q = in_line w q (handled q) (queue q)

abbrev pub wire_of : Plan → Weight → (Output → Wire) → Output → ℕ
wire_of pl w wire o = on_wire pl w o (wire o)

-- all lines
unfoldable pub in_lines : Plan → Weight → (Queue → Bool) → (Queue → List Packet) → ℕ
in_lines pl w handled queue = sum (queues pl) (λ n. line_of w handled queue (queue_at pl n))

-- all wires
unfoldable pub in_wires : Plan → Weight → (Output → Wire) → ℕ
in_wires pl w wire = sum (outputs pl) (λ n. wire_of pl w wire (output_at pl n))

-- all packets of a state
unfoldable pub weighed : Plan → Weight → State → ℕ
weighed pl w s = in_lines pl w s.lines.handled s.lines.queue + in_wires pl w s.links.wire
