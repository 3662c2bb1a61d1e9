-- 'Runs to compare' of document 01: plan T, and its starred runs of one launch. Each is one list of calls and one
-- theorem that evaluates it. Rounds are counted from 0: round n begins with the current slot n modulo 2.
use Rattle.std.specs.Prelude.{List, [], ◌∷◌, ◌++◌, ℕ}
use Rattle.packets.specs.declared.Kind.TheVariants.{Setup, Ack}
use Rattle.packets.specs.declared.Packet.{Packet}
use Rattle.rules.specs.State.{State}
use Rattle.rules.specs.Calls.{Call, read, execute, write, launch, reply, look, drop}
use Rattle.rules.specs.Runs.Watch.{round, packet, slot_in, entry_in}

-- the entries of side 1, by which the walk to the passive leaves: slot 0, slot 1
abbrev pub side1 : State → List ℕ
side1 s = entry_in s 0 1 0 ∷ entry_in s 0 1 1 ∷ []

-- both are free; slot 0 is booked with side 0, by which the walk came in, and slot 1 is free
abbrev pub free : List ℕ
free = 4 ∷ 4 ∷ []

abbrev pub booked_side : List ℕ
booked_side = 0 ∷ 4 ∷ []

-- the set-up of Launch (0,0,0), as launched and after its booking; its ACK: slot 1, hub 1
abbrev pub launched_setup : Packet
launched_setup = packet Setup 0 0 0 0

abbrev pub setup : Packet
setup = packet Setup 0 0 1 1

abbrev pub ack : Packet
ack = packet Ack 0 0 1 1

-- ---- 'Launch (0,0,0) in round 0: booked in round 2, waits at the passive from round 4; accepted there, consumed in
-- round 7 with slot 1, hub 1.' From document 02 (c) on a Look and a Drop are what Consume was.
abbrev pub launch_in_round0 : List Call
launch_in_round0 =
    launch 0 0 0 ∷ round
    -- rounds 1 to 3
    ++ round
    ++ round
    ++ round
    -- round 4: accepted in its WRITE
    ++ read ∷ execute ∷ reply 0 1 ∷ write ∷ []
    -- rounds 5 and 6
    ++ round
    ++ round
    -- round 7: looked at and dropped in its WRITE
    ++ read ∷ execute ∷ look 0 ∷ drop 0 ∷ []

-- two queues, here the passive's in-queue and the active's: both are empty
abbrev pub nowhere : List (List Packet)
nowhere = [] ∷ [] ∷ []

-- the set-up waits at the passive; the ACK waits at the active
abbrev pub waits_at_passive : List (List Packet)
waits_at_passive = (setup ∷ []) ∷ [] ∷ []

abbrev pub waits_at_active : List (List Packet)
waits_at_active = [] ∷ (ack ∷ []) ∷ []

-- ---- 'The same launch in round 1 instead: F[1] waits in round 4 (slot 0 booked); reaches the passive in round 6.'
abbrev pub launch_in_round1 : List Call
launch_in_round1 =
    round
    -- round 1
    ++ launch 0 0 0 ∷ round
    -- rounds 2 to 6
    ++ round
    ++ round
    ++ round
    ++ round
    ++ round

-- the current slot, then the entries of side 1
abbrev pub slot_and_side1 : State → List ℕ
slot_and_side1 s = slot_in s ∷ side1 s

-- F[1], by document 02 (i) that of set-ups, and the passive's in-queue: the set-up is in F[1]; it has reached the
-- passive
abbrev pub in_f : List (List Packet)
in_f = (setup ∷ []) ∷ [] ∷ []

abbrev pub has_reached : List (List Packet)
has_reached = [] ∷ (setup ∷ []) ∷ []
