-- The numbers of the layout: widths, counts, and the offset of every byte, linear in the plan's counts and in the
-- place's numbers.
use Rattle.std.specs.Prelude.{◌≡◌, ℕ, ◌+◌, ◌*◌, ◌≤◌}
use Rattle.std.proofs.Common.{arith}
use Rattle.plan.specs.Head.{InRange}
use Rattle.plan.specs.Plan.{Plan, R, A}
use Rattle.plan_queues.specs.Queue.{Queue, number, queues}
use Rattle.plan_queues.specs.Feeds.{Output}
use Rattle.rules.specs.Outputs.{outputs, output_number}

-- ---- the header
abbrev pub phase_byte : ℕ
phase_byte = 0

abbrev pub slot_byte : ℕ
slot_byte = 1

abbrev pub queues_at : ℕ
queues_at = 2

-- ---- a packet's five bytes
abbrev pub packet_kind : ℕ
packet_kind = 0

abbrev pub packet_active : ℕ
packet_active = 1

abbrev pub packet_passive : ℕ
packet_passive = 2

abbrev pub packet_slot : ℕ
packet_slot = 3

abbrev pub packet_hub : ℕ
packet_hub = 4

abbrev pub packet_width : ℕ
packet_width = 5

-- ---- a queue's row: four bytes, then seven places for packets
abbrev pub places : ℕ
places = 7

abbrev pub credit_byte : ℕ
credit_byte = 0

abbrev pub flag_byte : ℕ
flag_byte = 1

abbrev pub handled_byte : ℕ
handled_byte = 2

abbrev pub length_byte : ℕ
length_byte = 3

abbrev pub first_place : ℕ
first_place = 4

abbrev pub queue_width : ℕ
queue_width = first_place + packet_width * places

-- ---- an output's row: the wire's byte and packet, then the choice
abbrev pub wire_byte : ℕ
wire_byte = 0

abbrev pub wire_packet : ℕ
wire_packet = 1

abbrev pub choice_byte : ℕ
choice_byte = 6

abbrev pub output_width : ℕ
output_width = 7

-- ---- the table: room for 32 slots on each of a router's four sides, two bytes an entry
abbrev pub slot_room : ℕ
slot_room = 32

abbrev pub router_entries : ℕ
router_entries = 4 * slot_room

abbrev pub entry_width : ℕ
entry_width = 2

-- entries have numbers too, by router, side and slot
abbrev pub entries : Plan → ℕ
entries pl = router_entries * R pl

abbrev pub entry_index : ℕ → ℕ → ℕ → ℕ
entry_index r o t = router_entries * r + slot_room * o + t

-- ---- the accepted connections: for each active room for 16 passives, and for each pair four bytes, a bit for each of
-- 32 start slots
abbrev pub passive_room : ℕ
passive_room = 16

abbrev pub starts_width : ℕ
starts_width = 4

-- pairs have numbers too, by active and passive
abbrev pub pairs : Plan → ℕ
pairs pl = passive_room * A pl

abbrev pub pair_index : ℕ → ℕ → ℕ
pair_index a p = passive_room * a + p

-- ---- where each part begins
abbrev pub outputs_at : Plan → ℕ
outputs_at pl = queues_at + queue_width * queues pl

abbrev pub allowances_at : Plan → ℕ
allowances_at pl = outputs_at pl + output_width * outputs pl

abbrev pub table_at : Plan → ℕ
table_at pl = allowances_at pl + A pl

abbrev pub connections_at : Plan → ℕ
connections_at pl = table_at pl + entry_width * entries pl

-- what outputs remember: a byte for each
abbrev pub turns_at : Plan → ℕ
turns_at pl = connections_at pl + starts_width * pairs pl

-- the count of the state's bytes
unfoldable pub size : Plan → ℕ
size pl = turns_at pl + outputs pl

-- ---- where each row stands
unfoldable pub queue_row : Plan → Queue → ℕ
queue_row pl q = queues_at + queue_width * number pl q

unfoldable pub output_row : Plan → Output → ℕ
output_row pl o = outputs_at pl + output_width * output_number pl o

unfoldable pub allowance_row : Plan → ℕ → ℕ
allowance_row pl a = allowances_at pl + a

unfoldable pub entry_row : Plan → ℕ → ℕ → ℕ → ℕ
entry_row pl r o t = table_at pl + entry_width * entry_index r o t

unfoldable pub starts_row : Plan → ℕ → ℕ → ℕ
starts_row pl a p = connections_at pl + starts_width * pair_index a p

unfoldable pub turn_row : Plan → Output → ℕ
turn_row pl o = turns_at pl + output_number pl o

-- the size, by the plan's counts alone
pub size_is : (pl : Plan) → size pl ≡ 2 + 39 * queues pl + 8 * outputs pl + 65 * A pl + 256 * R pl
unfolding size
size_is pl = omega arith

-- the state of a plan whose counts are in range is at most 26,130 bytes
pub size_most : (pl : Plan) → InRange pl.head → size pl ≤ 26130
unfolding size queues
size_most pl range =
    let r = range.routers.1 in let a = range.actives.1 in let p = range.passives.1 in
    omega arith

-- 'at most 64 KiB'
pub size_small : (pl : Plan) → InRange pl.head → size pl ≤ 65536
size_small pl range = let m = size_most pl range in omega arith
