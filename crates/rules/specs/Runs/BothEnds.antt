-- Document 02 (i), 'Cameras at both ends': 'Split Q by incoming side, and F[o] into one queue for set-ups and
-- tear-downs and one for answers, each with the old capacity. A unit handles each queue's unhandled head once in a
-- round, side 0 first, and sends one packet a round, turn about. A side's order is now set-up F, answer F, then K, so
-- at most four others go first there.' Each run is one list of calls and one theorem that evaluates it. Rounds are
-- counted from 0.
use Rattle.std.specs.Prelude.{List, [], ◌∷◌, ◌++◌, ℕ}
use Rattle.packets.specs.declared.Kind.TheVariants.{Setup, Ack, Nack}
use Rattle.packets.specs.declared.Packet.{Packet}
use Rattle.packets.specs.Answers.{done}
use Rattle.plan.specs.Plan.{Plan}
use Rattle.plan_queues.specs.Queue.{ahead, back, Queue, U, Q, F, K}
use Rattle.plan_queues.specs.Feeds.{Output, of_side, to_unit, from_unit}
use Rattle.rules.specs.State.{State, start, with_last_sender}
use Rattle.rules.specs.Calls.{Call, read, execute, write, launch, reply}
use Rattle.rules.specs.Runs.Watch.{round, many_rounds, in_write, packet, entry_in, count_in, each}
use Rattle.rules.specs.Runs.Watch.{ran}

-- the last sender that an output served, by its rank
abbrev pub last_at : Output → State → List ℕ
last_at o s = s.last_sender o ∷ []

-- ---- two set-ups for one entry, in Q[0] and Q[1], in one EXECUTE: 'a unit handles each queue's unhandled head once
-- in a round, side 0 first'. One router, S=4: side 0 to active 0, side 1 to active 1, side 2 to passive 0.
abbrev pub one_entry : List (List Call)
one_entry =
    -- rounds 0 to 2; round 3: active 0 launches with slot 3, as active 1 has done; round 4: after EXECUTE
    (launch 0 0 2 ∷ launch 1 0 0 ∷ launch 1 0 3 ∷ many_rounds 3 ++ launch 0 0 3 ∷ round ++ read ∷ execute ∷ [])
    -- round 5: after READ, EXECUTE, WRITE
    ∷ (write ∷ read ∷ [])
    ∷ (execute ∷ [])
    ∷ (write ∷ [])
    ∷ []

-- the entries of side 2, by which all set-ups leave
abbrev pub side2 : State → List ℕ
side2 s = entry_in s 0 2 0 ∷ entry_in s 0 2 1 ∷ entry_in s 0 2 2 ∷ entry_in s 0 2 3 ∷ []

-- ---- an entry freed and booked in one EXECUTE: a TDOWN ends in Q[0], and in the same round Q[1]'s head has the entry
abbrev pub freed_and_booked : List (List Call)
freed_and_booked =
    -- round 0: active 0 launches with slot 0, and is declined in round 4. Rounds 5 and 6: active 1 launches three times
    -- with slot 0; the first two become NACKs, and one of them waits for answer F in round 9
    (launch 0 0 0 ∷ many_rounds 4 ++ in_write (reply 0 0) ++ write ∷ launch 1 0 0 ∷ launch 1 0 0 ∷ round)
    ∷ (launch 1 0 0 ∷ many_rounds 3 ++ read ∷ execute ∷ [])
    -- round 10: after READ, EXECUTE, WRITE
    ∷ (write ∷ read ∷ [])
    ∷ (execute ∷ [])
    ∷ (write ∷ [])
    ∷ []

-- ---- the Q that a packet on the way to the unit joins is that of the side by which its walk comes in. The wire does
-- not say by which side it came, and the rank that the way to the unit remembers is not it: along a list from Start
-- the two are the same, but 7 does not tie one to the other. So here is a list from another state: after rounds 0 and
-- 1 active 1's set-up is on that wire, and the way to the unit remembers U[0]
abbrev pub on_the_wire : List Call
on_the_wire = launch 1 0 0 ∷ many_rounds 2

abbrev pub with_u0_remembered : Plan → State
with_u0_remembered pl =
    with_last_sender (to_unit 0) 0 (ran pl on_the_wire (record { answer = done; state = start pl })).state

-- ---- set-up F and answer F of one side: 'set-up F, answer F, then K'. The crossing plan with active out 2, active
-- in 2: two routers, joined by their sides 2, each with an active on side 0 and a passive on side 1; S=4.
abbrev pub both_fs : List (List Call)
both_fs =
    -- round 0: active 0 to passive 0; active 1 to it too, for the same entry of router 0. Round 4: active 0 to
    -- passive 1, with slot 2. Round 6: after EXECUTE
    (launch 0 0 1 ∷ launch 1 0 0 ∷ many_rounds 4 ++ launch 0 1 2 ∷ many_rounds 2 ++ read ∷ execute ∷ [])
    -- round 7: after READ and WRITE; round 8: after WRITE
    ∷ (write ∷ read ∷ [])
    ∷ (execute ∷ write ∷ [])
    ∷ round
    ∷ []

-- the entry of router 0's side 2 for slot 2, and the last sender of that side
abbrev pub slot2_and_last : State → List ℕ
slot2_and_last s = entry_in s 0 2 2 ∷ last_at (of_side 0 2) s

-- active 1's NACK, hub 1; active 0's set-up, booked at router 0
abbrev pub nack1 : List Packet
nack1 = packet Nack 1 0 1 1 ∷ []

abbrev pub setup0 : List Packet
setup0 = packet Setup 0 1 3 1 ∷ []

-- ---- four senders to the unit, and four Qs from it: '.. and sends one packet a round, turn about'. A line of three
-- routers, 'sensors and drives on each end of the line', S=8. Router 0 is in the middle: side 0 to active 0, side 1
-- to active 1, side 2 to side 0 of router 1, side 3 to side 0 of router 2. Router 1: side 1 to active 2, side 2 to
-- passive 0. Router 2: side 1 to active 3, side 2 to passive 1. Routes: the shortest. Capacities: active out 2, in 2,
-- U 2, passive in 2, all others 1.
-- actives 0 and 1 come in to router 0 by sides 0 and 1; active 2, to passive 1, by side 2; active 3, to passive 0, by
-- side 3
abbrev pub from_all_sides : List (List Call)
from_all_sides =
    -- rounds 0 to 6; round 7: after READ
    (launch 3 0 0 ∷ round
    ++ launch 2 1 7 ∷ round
    ++ launch 3 0 1 ∷ round
    ++ launch 0 1 1 ∷ launch 0 1 3 ∷ launch 2 1 4 ∷ many_rounds 2
    ++ launch 1 0 6 ∷ launch 1 0 6 ∷ many_rounds 2
    ++ read ∷ [])
    -- rounds 7 to 10: after WRITE
    ∷ (execute ∷ write ∷ [])
    ∷ round
    ∷ round
    ∷ round
    -- round 11: after EXECUTE and WRITE; rounds 12 to 15: after WRITE
    ∷ (read ∷ execute ∷ [])
    ∷ (write ∷ [])
    ∷ round
    ∷ round
    ∷ round
    ∷ round
    ∷ []

-- the last senders to router 0's unit and from it, the packets in U[0] to U[3], and in Q[0] to Q[3]
abbrev pub at_unit0 : State → List ℕ
at_unit0 s =
    last_at (to_unit 0) s ++ last_at (from_unit 0) s ++ each (count_in s) (U 0 0 ∷ U 0 1 ∷ U 0 2 ∷ U 0 3 ∷ [])
    ++ each (count_in s) (Q 0 0 ∷ Q 0 1 ∷ Q 0 2 ∷ Q 0 3 ∷ [])

-- ---- five senders at a side: '.. so at most four others go first there'. Three routers, S=8. Router 0: side 0 to
-- passive 0, side 1 to passive 1, side 2 to side 0 of router 2, side 3 to side 0 of router 1. Router 1: side 1 to
-- active 0, side 2 to passive 2. Router 2: side 1 to active 1, side 2 to passive 3. Routes: the shortest. Capacities:
-- active out 4, in 4, passive out 1, all others 2.
-- by side 3 of router 0 go the answers of passives 0, 1 and 3 to active 0, a NACK of router 0's unit to it, and the
-- set-ups of active 1 to passive 2
abbrev pub five_senders : List (List Call)
five_senders =
    -- round 0: active 0 to passives 3, 1 and 0; round 2: active 1 to passive 0; round 6: active 0 for the same entry
    (launch 0 3 2 ∷ launch 0 1 0 ∷ launch 0 0 6 ∷ many_rounds 2
    ++ launch 1 0 5 ∷ many_rounds 4
    ++ launch 0 0 5 ∷ round
    -- rounds 7 and 9: active 1 to passive 2
    ++ launch 1 2 3 ∷ many_rounds 2
    ++ launch 1 2 2 ∷ round
    -- round 10: passive 3 accepts; round 11: passives 0 and 1; round 12; round 13: after READ
    ++ in_write (reply 3 1) ++ write ∷ in_write (reply 0 1) ++ reply 1 1 ∷ write ∷ round ++ read ∷ [])
    -- rounds 13 to 16: after WRITE; round 17: after READ and WRITE; round 18: after WRITE
    ∷ (execute ∷ write ∷ [])
    ∷ round
    ∷ round
    ∷ round
    ∷ (read ∷ [])
    ∷ (execute ∷ write ∷ [])
    ∷ round
    ∷ []

-- set-up F[3], answer F[3], K[0,3], K[1,3], K[2,3]
abbrev pub five : List Queue
five = F ahead 0 3 ∷ F back 0 3 ∷ K 0 0 3 ∷ K 0 1 3 ∷ K 0 2 3 ∷ []

-- active 1's set-ups to passive 2; the NACK; the ACKs of passives 0, 1 and 3
abbrev pub setup : List Packet
setup = packet Setup 1 2 5 2 ∷ []

abbrev pub next_setup : List Packet
next_setup = packet Setup 1 2 4 2 ∷ []

abbrev pub nack : List Packet
nack = packet Nack 0 0 6 1 ∷ []

abbrev pub ack0 : List Packet
ack0 = packet Ack 0 0 0 2 ∷ []

abbrev pub ack1 : List Packet
ack1 = packet Ack 0 1 2 2 ∷ []

abbrev pub ack3 : List Packet
ack3 = packet Ack 0 3 5 3 ∷ []
