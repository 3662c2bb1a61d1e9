-- An output's order: 'F[o], K[0,o] to K[3,o] for a side', 'U[0] to U[3] to the unit'; by document 02 (i) 'a side's
-- order is now set-up F, answer F, then K' (both F wait in BothEnds). Who goes first where several wait: an output
-- 'starts as if the last in order had sent' (document 02 (b)), so those that wait once each go in order, as they did
-- when the first in order always went first. One list of calls and one theorem each.
use Rattle.std.specs.Prelude.{List, [], ◌∷◌, ◌++◌, ℕ}
use Rattle.packets.specs.declared.Kind.TheVariants.{Setup, Ack, Nack}
use Rattle.packets.specs.declared.Packet.{Packet}
use Rattle.rules.specs.State.{State}
use Rattle.rules.specs.Calls.{Call, read, execute, write, launch, reply}
use Rattle.rules.specs.Runs.Watch.{round, many_rounds, packet, entry_in}

-- ---- U[1], U[2] and U[3]: three actives launch with slot 5 in round 0, and their set-ups come to the router in round
-- 1. (U[0] before U[1] is seen in Entries.)
abbrev pub three_launch : List (List Call)
three_launch =
    (launch 0 0 5 ∷ launch 1 0 5 ∷ launch 2 0 5 ∷ round ++ read ∷ [])
    -- round 1: its WRITE
    ∷ (execute ∷ write ∷ [])
    -- rounds 2, 3 and 4: after EXECUTE, and after the WRITE of 2 and 3
    ∷ (read ∷ execute ∷ [])
    ∷ (write ∷ [])
    ∷ (read ∷ execute ∷ [])
    ∷ (write ∷ [])
    ∷ (read ∷ execute ∷ [])
    ∷ []

-- the entry of side 0 for slot 5: free; booked with side 1, active 0's
abbrev pub slot5 : State → List ℕ
slot5 s = entry_in s 0 0 5 ∷ []

abbrev pub free : List ℕ
free = 4 ∷ []

abbrev pub booked_side : List ℕ
booked_side = 1 ∷ []

-- U[1], U[2], U[3], then Q[1], Q[2], Q[3]: an active's set-up comes to the Q of its own side
abbrev pub seen : List Packet → List Packet → List Packet → List (List Packet) → List (List Packet)
seen u1 u2 u3 qs = u1 ∷ u2 ∷ u3 ∷ qs

-- an active's set-up
abbrev pub of : ℕ → List Packet
of a = packet Setup a 0 5 0 ∷ []

-- ---- answer F[1], K[0,1] and K[3,1]: a NACK of the unit and an ACK of each passive, all for active 0, which is at
-- side 1
abbrev pub three_answers : List (List Call)
three_answers =
    -- round 0: a set-up to each passive; round 6: another to passive 0, for an entry that is booked
    (launch 0 0 8 ∷ launch 0 1 8 ∷ many_rounds 6 ++ launch 0 0 8 ∷ round)
    -- round 7: both passives accept; round 8; round 9: all three answers wait
    ∷ (read ∷ execute ∷ reply 0 1 ∷ reply 1 1 ∷ write ∷ round ++ read ∷ [])
    -- round 9: its WRITE; rounds 10, 11 and 12: after READ, and after the WRITE of 10 and 11
    ∷ (execute ∷ write ∷ [])
    ∷ (read ∷ [])
    ∷ (execute ∷ write ∷ [])
    ∷ (read ∷ [])
    ∷ (execute ∷ write ∷ [])
    ∷ (read ∷ [])
    ∷ []

abbrev pub nothing : State → List ℕ
nothing s = []

-- answer F[1], K[0,1], K[3,1], active 0's in-queue
abbrev pub waiting : List Packet → List Packet → List Packet → List Packet → List (List Packet)
waiting f k0 k3 ain = f ∷ k0 ∷ k3 ∷ ain ∷ []

-- the unit's answer, passive 0's and passive 1's
abbrev pub nack : Packet
nack = packet Nack 0 0 8 0

abbrev pub ack0 : Packet
ack0 = packet Ack 0 0 9 1

abbrev pub ack1 : Packet
ack1 = packet Ack 0 1 9 1
