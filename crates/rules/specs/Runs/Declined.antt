-- 'Runs to compare' of document 01: 'S=4, two routers, start 3, second declines: NACK slot 0 hub 1, TDOWN slot 3 hub
-- 1; the second router keeps its entry.' One list of calls and one theorem that evaluates it. Rounds are counted from
-- 0: round n begins with the current slot n modulo 4. Request (i) of document 02 splits Q by incoming side: at the
-- second router active 1's set-up is in Q[2] and active 0's in Q[0]; nothing else changes, for neither meets the
-- other there.
use Rattle.std.specs.Prelude.{List, [], ◌∷◌, ◌++◌, ℕ}
use Rattle.packets.specs.declared.Kind.TheVariants.{Setup, Tdown, Ack, Nack}
use Rattle.packets.specs.declared.Packet.{Packet}
use Rattle.rules.specs.State.{State}
use Rattle.rules.specs.Calls.{Call, read, execute, write, launch, reply, look, drop}
use Rattle.rules.specs.Runs.Watch.{round, packet, entry_in}

-- The walks to the passive leave each router by its side 1: that side's entries for slots 0 to 3, at the first router,
-- then at the second
abbrev pub both_sides : State → List ℕ
both_sides s =
    entry_in s 0 1 0 ∷ entry_in s 0 1 1 ∷ entry_in s 0 1 2 ∷ entry_in s 0 1 3
    ∷ entry_in s 1 1 0 ∷ entry_in s 1 1 1 ∷ entry_in s 1 1 2 ∷ entry_in s 1 1 3 ∷ []

-- all are free
abbrev pub free : List ℕ
free = 4 ∷ 4 ∷ 4 ∷ 4 ∷ 4 ∷ 4 ∷ 4 ∷ 4 ∷ []

-- the second router has booked slot 0, for a set-up of active 1 that came in by side 2
abbrev pub second : List ℕ
second = 4 ∷ 4 ∷ 4 ∷ 4 ∷ 2 ∷ 4 ∷ 4 ∷ 4 ∷ []

-- and the first router slot 3, for a set-up of active 0 that came in by side 0
abbrev pub both : List ℕ
both = 4 ∷ 4 ∷ 4 ∷ 0 ∷ 2 ∷ 4 ∷ 4 ∷ 4 ∷ []

abbrev pub second_declines : List Call
second_declines =
    -- round 0: active 1 launches with slot 0
    launch 1 0 0 ∷ round
    -- rounds 1 to 3
    ++ round
    ++ round
    ++ round
    -- round 4: accepted in its WRITE
    ++ read ∷ execute ∷ reply 0 1 ∷ write ∷ []
    -- rounds 5 and 6
    ++ round
    ++ round
    -- round 7: looked at and dropped in its WRITE
    ++ read ∷ execute ∷ look 1 ∷ drop 1 ∷ write ∷ []
    -- round 8: active 0 launches with slot 3
    ++ launch 0 0 3 ∷ round
    -- rounds 9 to 16
    ++ round
    ++ round
    ++ round
    ++ round
    ++ round
    ++ round
    ++ round
    ++ round
    -- round 17: the NACK is looked at and dropped in its WRITE
    ++ read ∷ execute ∷ look 0 ∷ drop 0 ∷ write ∷ []
    -- rounds 18 to 24
    ++ round
    ++ round
    ++ round
    ++ round
    ++ round
    ++ round
    ++ round

-- active 0's out-queue, Q[0] of the first router, Q[0] and Q[2] of the second, active 0's in-queue
abbrev pub seen : List Packet → List Packet → List Packet → List Packet → List Packet → List (List Packet)
seen out q0 q10 q12 ain = out ∷ q0 ∷ q10 ∷ q12 ∷ ain ∷ []

-- all are empty, or only one has a packet
abbrev pub quiet : List (List Packet)
quiet = seen [] [] [] [] []

abbrev pub in_out : Packet → List (List Packet)
in_out x = seen (x ∷ []) [] [] [] []

abbrev pub in_first : Packet → List (List Packet)
in_first x = seen [] (x ∷ []) [] [] []

abbrev pub in_second : Packet → List (List Packet)
in_second x = seen [] [] (x ∷ []) [] []

-- by side 2, where active 1 is
abbrev pub in_second_by2 : Packet → List (List Packet)
in_second_by2 x = seen [] [] [] (x ∷ []) []

abbrev pub in_in : Packet → List (List Packet)
in_in x = seen [] [] [] [] (x ∷ [])

-- active 0's set-up as launched, and as the first router sends it on: slot 0, hub 1
abbrev pub setup : Packet
setup = packet Setup 0 0 3 0

abbrev pub passed_on : Packet
passed_on = packet Setup 0 0 0 1

-- the NACK that it becomes, 'slot and hub kept': slot 0, hub 1; and when it is marked: hub 0
abbrev pub nack : Packet
nack = packet Nack 0 0 0 1

abbrev pub marked_nack : Packet
marked_nack = packet Nack 0 0 0 0

-- the TDOWN 'with the NACK's hub and with slot minus hub modulo S': slot 3, hub 1
abbrev pub tdown : Packet
tdown = packet Tdown 0 0 3 1

-- active 1's set-up as launched, and as the second router sends it on; its ACK
abbrev pub other : Packet
other = packet Setup 1 0 0 0

abbrev pub other_booked : Packet
other_booked = packet Setup 1 0 1 1

abbrev pub other_ack : Packet
other_ack = packet Ack 1 0 1 1
