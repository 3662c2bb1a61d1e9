-- A passive declines: the set-up over two routers, and over three, is torn down to its end. One list of calls and one
-- theorem each. Looked at: when the allowance comes back, and that every entry is free again.
use Rattle.std.specs.Prelude.{List, [], ◌∷◌, ◌++◌, ℕ}
use Rattle.packets.specs.declared.Kind.TheVariants.{Setup, Tdown, Nack}
use Rattle.packets.specs.declared.Packet.{Packet}
use Rattle.plan_queues.specs.Queue.{Queue, active_out, active_in, passive_in, Q}
use Rattle.rules.specs.State.{State}
use Rattle.rules.specs.Calls.{Call, read, execute, write, launch, reply, look, drop}
use Rattle.rules.specs.Runs.Watch.{many_rounds, in_write, packet, entry_in, allowance_in}
use Rattle.rules.specs.Runs.Declined.{both_sides}

-- ---- two routers, S=4: active 0 launches with slot 2, and the passive declines
abbrev pub over_two : List (List Call)
over_two =
    -- rounds 0 to 6, then round 7: it has come to the passive, which declines
    (launch 0 0 2 ∷ many_rounds 7)
    ∷ (read ∷ execute ∷ [])
    ∷ (reply 0 0 ∷ [])
    -- rounds 8 to 10, then round 11: the NACK comes, and is marked
    ∷ (write ∷ many_rounds 3 ++ read ∷ [])
    ∷ (execute ∷ [])
    -- round 12: a launch is tried; the NACK is looked at and dropped, and the TDOWN is sent
    ∷ (write ∷ launch 0 0 0 ∷ [])
    ∷ in_write (look 0)
    ∷ (drop 0 ∷ [])
    -- round 13, then round 14: the TDOWN is at the first router's unit
    ∷ (write ∷ many_rounds 1 ++ read ∷ [])
    ∷ (execute ∷ [])
    -- rounds 15 and 16, then round 17: it is at the second one's
    ∷ (write ∷ many_rounds 2 ++ read ∷ [])
    ∷ (execute ∷ [])
    -- rounds 18 and 19
    ∷ (write ∷ many_rounds 2)
    ∷ []

-- active 0's allowance, then the entries of the first router's side 1, then of the second one's
abbrev pub allowance_and_both : State → List ℕ
allowance_and_both s = allowance_in s 0 ∷ both_sides s

-- with that allowance: both booked, slot 2 and then slot 3; only the second; all free
abbrev pub both : ℕ → List ℕ
both a = a ∷ 4 ∷ 4 ∷ 0 ∷ 4 ∷ 4 ∷ 4 ∷ 4 ∷ 0 ∷ []

abbrev pub second : ℕ → List ℕ
second a = a ∷ 4 ∷ 4 ∷ 4 ∷ 4 ∷ 4 ∷ 4 ∷ 4 ∷ 0 ∷ []

abbrev pub all_free : ℕ → List ℕ
all_free a = a ∷ 4 ∷ 4 ∷ 4 ∷ 4 ∷ 4 ∷ 4 ∷ 4 ∷ 4 ∷ []

-- active 0's out-queue and in-queue, Q[0] of the first router and of the second, the passive's in-queue
abbrev pub seen : List Packet → List Packet → List Packet → List Packet → List Packet → List (List Packet)
seen out ain q0 q1 pin = out ∷ ain ∷ q0 ∷ q1 ∷ pin ∷ []

abbrev pub places : List Queue
places = active_out 0 ∷ active_in 0 ∷ Q 0 0 ∷ Q 1 0 ∷ passive_in 0 ∷ []

abbrev pub quiet : List (List Packet)
quiet = seen [] [] [] [] []

-- the set-up as it comes to the passive, its NACK, 'slot and hub kept', and that NACK marked
abbrev pub setup : Packet
setup = packet Setup 0 0 0 2

abbrev pub nack : Packet
nack = packet Nack 0 0 0 2

abbrev pub marked_nack : Packet
marked_nack = packet Nack 0 0 0 0

-- its TDOWN, slot 0 minus hub 2 modulo 4: slot 2, hub 2; and as the first router sends it on
abbrev pub tdown : Packet
tdown = packet Tdown 0 0 2 2

abbrev pub tdown_on : Packet
tdown_on = packet Tdown 0 0 3 1

-- ---- three routers, S=3: active 1 launches with slot 1, over routers 1 to 3 of four; the passive declines
abbrev pub over_three : List (List Call)
over_three =
    -- rounds 0 to 10, then round 11: it has come to the passive, which declines
    (launch 1 0 1 ∷ many_rounds 11)
    ∷ (read ∷ execute ∷ [])
    ∷ (reply 0 0 ∷ [])
    -- rounds 12 to 15, then round 16: the NACK comes, and is marked
    ∷ (write ∷ many_rounds 4 ++ read ∷ [])
    ∷ (execute ∷ [])
    -- round 17: the NACK is looked at and dropped, and the TDOWN is sent
    ∷ (write ∷ launch 1 0 0 ∷ [])
    ∷ in_write (look 1)
    ∷ (drop 1 ∷ [])
    -- rounds 19, 22 and 25: the TDOWN is at the unit of router 1, of router 2, of router 3
    ∷ (write ∷ many_rounds 1 ++ read ∷ [])
    ∷ (execute ∷ [])
    ∷ (write ∷ many_rounds 2 ++ read ∷ [])
    ∷ (execute ∷ [])
    ∷ (write ∷ many_rounds 2 ++ read ∷ [])
    ∷ (execute ∷ [])
    ∷ (write ∷ many_rounds 2)
    ∷ []

-- active 1's allowance, then the entries of side 1 of routers 1, 2 and 3
abbrev pub allowance_and_three : State → List ℕ
allowance_and_three s =
    allowance_in s 1 ∷ entry_in s 1 1 0 ∷ entry_in s 1 1 1 ∷ entry_in s 1 1 2
    ∷ entry_in s 2 1 0 ∷ entry_in s 2 1 1 ∷ entry_in s 2 1 2 ∷ entry_in s 3 1 0 ∷ entry_in s 3 1 1 ∷ entry_in s 3 1 2 ∷
    []

-- with that allowance: all three booked, slots 1, 2 and 0; the last two; the last; none
abbrev pub three : ℕ → List ℕ
three a = a ∷ 4 ∷ 2 ∷ 4 ∷ 4 ∷ 4 ∷ 0 ∷ 0 ∷ 4 ∷ 4 ∷ []

abbrev pub last_two : ℕ → List ℕ
last_two a = a ∷ 4 ∷ 4 ∷ 4 ∷ 4 ∷ 4 ∷ 0 ∷ 0 ∷ 4 ∷ 4 ∷ []

abbrev pub last_one : ℕ → List ℕ
last_one a = a ∷ 4 ∷ 4 ∷ 4 ∷ 4 ∷ 4 ∷ 4 ∷ 0 ∷ 4 ∷ 4 ∷ []

abbrev pub none_booked : ℕ → List ℕ
none_booked a = a ∷ 4 ∷ 4 ∷ 4 ∷ 4 ∷ 4 ∷ 4 ∷ 4 ∷ 4 ∷ 4 ∷ []

-- active 1's out-queue and in-queue; Q[2] of router 1, where active 1 is at side 2, and Q[0] of routers 2 and 3.
-- (Request (i) of document 02 splits Q by incoming side; the figures are the old ones.)
abbrev pub watched : List Packet → List Packet → List Packet → List Packet → List Packet → List (List Packet)
watched out ain q1 q2 q3 = out ∷ ain ∷ q1 ∷ q2 ∷ q3 ∷ []

abbrev pub still : List (List Packet)
still = watched [] [] [] [] []

-- the NACK of a walk of three, and marked; the TDOWN, slot 1 minus hub 3 modulo 3: slot 1, hub 3; and as it goes on
abbrev pub nack3 : Packet
nack3 = packet Nack 1 0 1 3

abbrev pub marked3 : Packet
marked3 = packet Nack 1 0 1 0

abbrev pub tdown3 : Packet
tdown3 = packet Tdown 1 0 1 3

abbrev pub tdown2 : Packet
tdown2 = packet Tdown 1 0 2 2

abbrev pub tdown1 : Packet
tdown1 = packet Tdown 1 0 0 1
