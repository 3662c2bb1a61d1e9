-- What is left in the network, for document 02 (n): 'With N packets .. then in queues, wires .., the network is empty
-- after at most 256 × S × N rounds.'
use Rattle.std.specs.Prelude.{ℕ, ◌*◌}
use Rattle.packets.specs.declared.Packet.{Packet}
use Rattle.packets.specs.declared.Remaining.{Remaining}
use Rattle.plan.specs.Plan.{Plan, S}
use Rattle.rules.specs.State.{State}
use Rattle.rules.specs.Valid.{total}

-- N: each packet in a queue or on a wire counts one
abbrev pub packets : Plan → State → ℕ
packets pl s = total pl (λ (x : Packet). 1) s

-- '256 × S × N rounds', for a number of slots and a number of packets
abbrev pub enough : ℕ → ℕ → ℕ
enough slots n = 256 * slots * n

-- both, as the call Remaining answers them
abbrev pub remaining_in : Plan → State → Remaining
remaining_in pl s = record { packets = packets pl s; rounds = enough (S pl) (packets pl s) }
