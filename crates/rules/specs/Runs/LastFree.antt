-- 'Runs to compare' of document 01: 'After that ACK is consumed, launch (0,0,1): last free entry, NACK with hub 0.'
-- One list of calls and one theorem that evaluates it. Plan T; that ACK is the one of the launch in round 0.
use Rattle.std.specs.Prelude.{List, [], ◌∷◌, ◌++◌}
use Rattle.packets.specs.declared.Kind.TheVariants.{Setup, Nack}
use Rattle.packets.specs.declared.Packet.{Packet}
use Rattle.rules.specs.Calls.{Call, read, execute, write, launch, look, drop}
use Rattle.rules.specs.Runs.Watch.{round, many_rounds, packet}
use Rattle.rules.specs.Runs.FirstBookings.{launch_in_round0}

abbrev pub last_free_entry : List Call
last_free_entry =
    launch_in_round0 ++ write ∷ []
    -- round 8
    ++ launch 0 0 1 ∷ round
    -- rounds 9 to 11
    ++ round
    ++ round
    ++ round
    -- round 12: looked at and dropped in its WRITE
    ++ read ∷ execute ∷ look 0 ∷ drop 0 ∷ write ∷ []

-- the set-up of Launch (0,0,1), and the NACK that it becomes, 'slot and hub kept': slot 1, hub 0
abbrev pub last : Packet
last = packet Setup 0 0 1 0

abbrev pub nack : Packet
nack = packet Nack 0 0 1 0

-- the active's out-queue, Q[0] and the active's in-queue: all are empty, or one has a packet
abbrev pub quiet : List (List Packet)
quiet = [] ∷ [] ∷ [] ∷ []

abbrev pub in_out : Packet → List (List Packet)
in_out x = (x ∷ []) ∷ [] ∷ [] ∷ []

abbrev pub in_q : Packet → List (List Packet)
in_q x = [] ∷ (x ∷ []) ∷ [] ∷ []

abbrev pub in_in : Packet → List (List Packet)
in_in x = [] ∷ [] ∷ (x ∷ []) ∷ []

-- ---- 'the only free entry of o': with slot 0 free too, slot 1 is not the only one
abbrev pub slot1_first : List Call
slot1_first = launch 0 0 1 ∷ many_rounds 2 ++ read ∷ execute ∷ []
