-- 'Calls, each with its refusals in order': where the conditions of two or more hold at once, the earlier number is
-- given. One list of calls and one theorem for each call.
use Rattle.std.specs.Prelude.{List, [], ◌∷◌, ◌++◌, ℕ}
use Rattle.packets.specs.declared.Kind.TheVariants.{Setup, Tdown, Nack}
use Rattle.packets.specs.declared.Packet.{Packet}
use Rattle.plan_queues.specs.Queue.{active_in, passive_in}
use Rattle.rules.specs.State.{State}
use Rattle.rules.specs.Calls.{Call, read, execute, write, launch, reply, look, drop}
use Rattle.rules.specs.Runs.Watch.{many_rounds, in_write, packet, slot_in, allowance_in, flag_in}

-- ---- '**Read, Execute, Write**: 8 another phase'. Plan T, with a set-up on its way
abbrev pub phases_tried : List Call
phases_tried =
    launch 0 0 0 ∷ execute ∷ write ∷ read
    ∷ read ∷ write ∷ execute
    ∷ read ∷ execute ∷ write
    ∷ execute ∷ write ∷ read ∷ []

abbrev pub current_slot : State → List ℕ
current_slot s = slot_in s ∷ []

-- the active's out-queue and U[0]
abbrev pub setup_at : List Packet → List Packet → List (List Packet)
setup_at out u = out ∷ u ∷ []

-- ---- '**Launch**: 8 not READ; 9 a number out of range; 10 pair not served; 11 allowance 0; 12 out-queue full'. Three
-- actives, two passives, S=4, capacities 1; actives 0 and 1 are not served with passive 1
abbrev pub launches_tried : List (List Call)
launches_tried =
    -- READ
    (launch 3 0 0 ∷ [])
    ∷ (launch 0 2 0 ∷ [])
    ∷ (launch 0 0 4 ∷ [])
    ∷ (launch 0 1 0 ∷ [])
    ∷ (launch 0 1 4 ∷ [])
    ∷ (launch 0 0 0 ∷ [])
    ∷ (launch 0 0 1 ∷ [])
    ∷ (launch 0 1 1 ∷ [])
    ∷ (launch 0 2 1 ∷ [])
    -- EXECUTE
    ∷ (read ∷ launch 3 0 0 ∷ [])
    ∷ (launch 1 0 0 ∷ [])
    -- WRITE
    ∷ (execute ∷ launch 0 1 4 ∷ [])
    ∷ (launch 1 0 0 ∷ [])
    -- READ of the next round
    ∷ (write ∷ launch 1 0 0 ∷ [])
    ∷ []

-- the allowances of actives 0 and 1
abbrev pub allowances : State → List ℕ
allowances s = allowance_in s 0 ∷ allowance_in s 1 ∷ []

-- their out-queues: empty, with one set-up each or not
abbrev pub out_queues : List Packet → List Packet → List (List Packet)
out_queues o0 o1 = o0 ∷ o1 ∷ []

-- ---- '**Reply**: 8 not WRITE; 9 number or choice out of range; 14 in-queue flag up; 13 in-queue empty; 12 out-queue
-- full'. Plan T
abbrev pub replies_tried : List (List Call)
replies_tried =
    -- round 0: in READ, in EXECUTE, in WRITE
    (launch 0 0 0 ∷ reply 1 2 ∷ [])
    ∷ (reply 0 1 ∷ [])
    ∷ (read ∷ reply 0 2 ∷ [])
    ∷ (execute ∷ reply 1 1 ∷ [])
    ∷ (reply 0 2 ∷ [])
    ∷ (reply 0 1 ∷ [])
    -- rounds 1 to 3; round 4, in WRITE
    ∷ (write ∷ many_rounds 3 ++ read ∷ execute ∷ [])
    ∷ (reply 0 1 ∷ [])
    ∷ (reply 0 1 ∷ [])
    ∷ (reply 0 2 ∷ [])
    ∷ (reply 1 0 ∷ [])
    -- round 5, in READ and in WRITE
    ∷ (write ∷ reply 0 1 ∷ [])
    ∷ in_write (reply 0 1)
    ∷ []

-- the flag of the passive's in-queue
abbrev pub passive_flag : State → List ℕ
passive_flag s = flag_in s (passive_in 0) ∷ []

abbrev pub down : List ℕ
down = 0 ∷ []

abbrev pub up : List ℕ
up = 1 ∷ []

-- the passive's in-queue and its out-queue
abbrev pub waits_at_passive : List Packet → List Packet → List (List Packet)
waits_at_passive pin pout = pin ∷ pout ∷ []

-- ---- 'Drop keeps Consume's 8, 9, 14, 13, 15': '8 not WRITE; 9; 14; 13; 15 head is an unmarked NACK'. Plan T; 9 and 14
-- never hold of one active
abbrev pub drops_tried : List (List Call)
drops_tried =
    -- round 0: in READ, in EXECUTE, in WRITE
    (launch 0 0 0 ∷ drop 1 ∷ [])
    ∷ (read ∷ drop 0 ∷ [])
    ∷ (execute ∷ drop 1 ∷ [])
    ∷ (drop 0 ∷ [])
    -- rounds 1 to 6, accepted in 4; round 7, in EXECUTE and in WRITE
    ∷ (write ∷ many_rounds 3 ++ read ∷ execute ∷ reply 0 1 ∷ write ∷ many_rounds 2 ++ read ∷ drop 0 ∷ [])
    ∷ (execute ∷ drop 1 ∷ [])
    ∷ (drop 0 ∷ [])
    ∷ (drop 0 ∷ [])
    ∷ (drop 1 ∷ [])
    -- round 8, in READ and in WRITE
    ∷ (write ∷ drop 0 ∷ [])
    ∷ in_write (drop 0)
    ∷ []

-- the active's allowance, and the flag of its in-queue
abbrev pub allowance_and_flag : State → List ℕ
allowance_and_flag s = allowance_in s 0 ∷ flag_in s (active_in 0) ∷ []

-- ---- 15 and 14. S=8, active out 2: two set-ups, slots 6 and 7, both declined in turn by the passive
abbrev pub both_declined : List Call
both_declined =
    -- rounds 0 to 3; declined in rounds 4 and 5; round 6
    launch 0 0 6 ∷ launch 0 0 7 ∷ many_rounds 4
    ++ read ∷ execute ∷ reply 0 0 ∷ write ∷ read ∷ execute ∷ reply 0 0 ∷ write ∷ many_rounds 1

-- the first NACK, marked; the second, not marked and marked; the TDOWN of each
abbrev pub first : Packet
first = packet Nack 0 0 7 0

abbrev pub second : Packet
second = packet Nack 0 0 0 1

abbrev pub second_marked : Packet
second_marked = packet Nack 0 0 0 0

abbrev pub tdown6 : Packet
tdown6 = packet Tdown 0 0 6 1

abbrev pub tdown7 : Packet
tdown7 = packet Tdown 0 0 7 1

-- another set-up
abbrev pub later : Packet
later = packet Setup 0 0 5 0

-- the active's out-queue and its in-queue
abbrev pub waits_at_active : List Packet → List Packet → List (List Packet)
waits_at_active out ain = out ∷ ain ∷ []

-- the first NACK is dropped at once, and a launch fills the out-queue
abbrev pub out_queue_full : List (List Call)
out_queue_full =
    -- round 7
    (both_declined ++ in_write (drop 0))
    -- round 8: the second NACK comes
    ∷ (write ∷ launch 0 0 5 ∷ [])
    ∷ in_write (look 0)
    ∷ (drop 0 ∷ [])
    -- round 9
    ∷ (write ∷ in_write (look 0))
    ∷ (drop 0 ∷ [])
    ∷ []

-- the first NACK is left until the second has come
abbrev pub both_wait : List (List Call)
both_wait =
    -- round 7; round 8
    (both_declined ++ many_rounds 1 ++ in_write (drop 0))
    ∷ (drop 0 ∷ [])
    -- round 9
    ∷ (write ∷ in_write (drop 0))
    ∷ []
