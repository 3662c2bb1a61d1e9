-- The layout in figures for plan T, as docs/STATE.md gives them, and Start's bytes of plan T: a state's, but not one
-- byte short or with a byte changed.
use Rattle.std.specs.Prelude.{◌≡◌, refl, Bool, true, false, List, [], ◌∷◌, ◌++◌, ℕ, zero, suc, ◌+◌, set, take}
use Rattle.sets.specs.Sets.{has, those}
use Rattle.fields.specs.Bits.{bit_at, field_of}
use Rattle.plan.specs.Head.{capacity_at, head_of}
use Rattle.plan.specs.Plan.{Plan, joint_in, plan_of}
use Rattle.plan_queues.specs.Queue.{ahead, back, Queue, active_out, active_in, passive_in, passive_out, U, Q, F, K}
use Rattle.plan_queues.specs.Queue.{number}
use Rattle.plan_queues.specs.Queue.{queues, queue_at}
use Rattle.plan_queues.specs.Feeds.{Output, of_active, of_passive, of_side, to_unit, from_unit}
use Rattle.rules.specs.Outputs.{output_at, output_number}
use Rattle.rules.specs.State.{blank, start}
use Rattle.bytes_layout.specs.Rows.{rows, front}
use Rattle.bytes_layout.specs.Offsets.{outputs_at, allowances_at, table_at, connections_at, turns_at, size, queue_row}
use Rattle.bytes_layout.specs.Offsets.{output_row, allowance_row, entry_row, starts_row, turn_row}
use Rattle.bytes_layout.specs.Places.{place_bytes, packet_at, packets_at}
use Rattle.bytes_layout.specs.Encode.{queue_bytes, output_bytes, encode}
use Rattle.bytes_layout.specs.Decode.{four_at, decode}
use Rattle.bytes_layout.specs.Canonical.{same_bytes, canonical}
use Rattle.plan.specs.Samples.{plan_t as bytesT}

-- one router, side 0 to active 0, side 1 to passive 0, S=2, capacities 1
unfoldable pub wired_t : Plan
unfolding bit_at field_of capacity_at head_of joint_in plan_of
wired_t = plan_of bytesT

-- ---- where the parts begin, and the size
pub t_parts : (outputs_at wired_t ≡ 1250) × (allowances_at wired_t ≡ 1306) × (table_at wired_t ≡ 1307)
    × (connections_at wired_t ≡ 1563) × (turns_at wired_t ≡ 1627) × (size wired_t ≡ 1635)
unfolding wired_t queues size
t_parts = (refl, refl, refl, refl, refl, refl)

-- ---- where the rows stand
abbrev pub queues_of : List Queue → List ℕ
queues_of [] = []
queues_of (q ∷ qs) = queue_row wired_t q ∷ queues_of qs

abbrev pub outputs_of : List Output → List ℕ
outputs_of [] = []
outputs_of (o ∷ os) = output_row wired_t o ∷ outputs_of os

abbrev pub turns_of : List Output → List ℕ
turns_of [] = []
turns_of (o ∷ os) = turn_row wired_t o ∷ turns_of os

pub t_interfaces : queues_of (active_out 0 ∷ passive_out 0 ∷ active_in 0 ∷ passive_in 0 ∷ []) ≡ 2 ∷ 41 ∷ 1172 ∷ 1211 ∷
    []
unfolding wired_t queue_row number
t_interfaces = refl

pub t_unit : queues_of (U 0 0 ∷ U 0 1 ∷ U 0 2 ∷ U 0 3 ∷ Q 0 0 ∷ Q 0 1 ∷ Q 0 2 ∷ Q 0 3 ∷ [])
    ≡ 80 ∷ 119 ∷ 158 ∷ 197 ∷ 236 ∷ 275 ∷ 314 ∷ 353 ∷ []
unfolding wired_t queue_row number
t_unit = refl

pub t_sides : queues_of (F ahead 0 0 ∷ F back 0 0 ∷ K 0 1 0 ∷ K 0 2 0 ∷ K 0 3 0 ∷ F ahead 0 1 ∷ F back 0 1 ∷ K 0 0 1 ∷ K
    0 2 1 ∷ K 0 3 1
    ∷ F ahead 0 2 ∷ F back 0 2 ∷ K 0 0 2 ∷ K 0 1 2 ∷ K 0 3 2 ∷ F ahead 0 3 ∷ F back 0 3 ∷ K 0 0 3 ∷ K 0 1 3 ∷ K 0 2 3 ∷
    [])
    ≡ 392 ∷ 431 ∷ 470 ∷ 509 ∷ 548 ∷ 587 ∷ 626 ∷ 665 ∷ 704 ∷ 743 ∷ 782 ∷ 821 ∷ 860 ∷ 899 ∷ 938 ∷ 977 ∷ 1016 ∷ 1055 ∷ 1094
    ∷ 1133 ∷ []
unfolding wired_t queue_row number
t_sides = refl

pub t_outputs : outputs_of (of_active 0 ∷ of_passive 0 ∷ of_side 0 0 ∷ of_side 0 1 ∷ of_side 0 2 ∷ of_side 0 3 ∷ to_unit
    0
    ∷ from_unit 0 ∷ []) ≡ 1250 ∷ 1257 ∷ 1264 ∷ 1271 ∷ 1278 ∷ 1285 ∷ 1292 ∷ 1299 ∷ []
unfolding wired_t queues output_row output_number
t_outputs = refl

pub t_entries : (allowance_row wired_t 0 ≡ 1306) × (entry_row wired_t 0 0 0 ≡ 1307) × (entry_row wired_t 0 1 0 ≡ 1371)
    × (entry_row wired_t 0 2 0 ≡ 1435) × (entry_row wired_t 0 3 1 ≡ 1501)
unfolding wired_t queues allowance_row entry_row
t_entries = (refl, refl, refl, refl, refl)

pub t_connections : starts_row wired_t 0 0 ≡ 1563
unfolding wired_t queues starts_row
t_connections = refl

pub t_turns : turns_of (of_active 0 ∷ of_passive 0 ∷ of_side 0 0 ∷ of_side 0 1 ∷ of_side 0 2 ∷ of_side 0 3 ∷ to_unit 0
    ∷ from_unit 0 ∷ []) ≡ 1627 ∷ 1628 ∷ 1629 ∷ 1630 ∷ 1631 ∷ 1632 ∷ 1633 ∷ 1634 ∷ []
unfolding wired_t queues turn_row output_number
t_turns = refl

-- ---- Start's bytes
unfoldable pub start_t : List ℕ
unfolding wired_t rows queues queue_at output_at start blank place_bytes queue_bytes output_bytes encode those
start_t = encode wired_t (start wired_t) []

unfoldable pub is_state_t : List ℕ → Bool
unfolding wired_t rows front size queues queue_at number queue_row output_at output_number output_row allowance_row
    entry_row starts_row turn_row start blank place_bytes packet_at packets_at four_at has those queue_bytes
    output_bytes encode decode same_bytes canonical
is_state_t b = canonical wired_t b

-- the offsets of the bytes that are not 0, from i on
abbrev pub filled : ℕ → List ℕ → List ℕ
filled i [] = []
filled i (zero ∷ b) = filled (suc i) b
filled i (suc x ∷ b) = i ∷ filled (suc i) b

abbrev pub sum_of : List ℕ → ℕ
sum_of [] = 0
sum_of (x ∷ b) = x + sum_of b

-- after Start: a credit in each queue's row, and the allowance; each is 1. And 3, the rank of the last in order, at
-- each of the router's four sides and on the way to its unit
pub t_filled : filled 0 start_t
    ≡ 2 ∷ 41 ∷ 80 ∷ 119 ∷ 158 ∷ 197 ∷ 236 ∷ 275 ∷ 314 ∷ 353 ∷ 392 ∷ 431 ∷ 470 ∷ 509 ∷ 548 ∷ 587 ∷ 626 ∷ 665 ∷ 704 ∷ 743
    ∷ 782 ∷ 821 ∷ 860 ∷ 899 ∷ 938 ∷ 977 ∷ 1016 ∷ 1055 ∷ 1094 ∷ 1133 ∷ 1172 ∷ 1211 ∷ 1306 ∷ 1629 ∷ 1630 ∷ 1631 ∷ 1632
    ∷ 1633 ∷ 1634 ∷ []
unfolding start_t
t_filled = refl

-- 33 ones, four fours and two threes
pub t_sum : sum_of start_t ≡ 55
unfolding start_t
t_sum = refl

-- Start's bytes are a state's, whatever is past them
pub t_start : is_state_t (start_t ++ (7 ∷ [])) ≡ true
unfolding start_t is_state_t
t_start = refl

-- one byte too few
pub t_short : is_state_t (take 1634 start_t) ≡ false
unfolding start_t is_state_t
t_short = refl

-- a packet's byte past the length, the length 8, a flag 2, the table's second byte, an entry from S on
pub t_others : (is_state_t (set start_t 8 1) ≡ false) × (is_state_t (set start_t 5 8) ≡ false) ×
    (is_state_t (set start_t 3 2)
    ≡ false) × (is_state_t (set start_t 1308 1) ≡ false) × (is_state_t (set start_t 1311 1) ≡ false)
unfolding start_t is_state_t
t_others = (refl, refl, refl, refl, refl)

-- a mark for a start slot from S on, and one for a passive that the plan does not have
pub t_marks : (is_state_t (set start_t 1563 4) ≡ false) × (is_state_t (set start_t 1567 1) ≡ false)
unfolding start_t is_state_t
t_marks = (refl, refl)
