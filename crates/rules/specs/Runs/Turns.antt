-- Turn about (document 02 (b)): 'each output remembers the last sender that a WRITE served and looks from the next
-- one on, cyclically, in the old order. It starts as if the last in order had sent.' One list of calls and one
-- theorem each. The number that is looked at is the rank that the output remembers. By document 02 (i) 'a side's
-- order is now set-up F, answer F, then K': at a side set-up F has rank 0, answer F rank 1, K ranks 2 to 4, where F
-- had 0 and K 1 to 3.
use Rattle.std.specs.Prelude.{List, [], ◌∷◌, ◌++◌, ℕ}
use Rattle.packets.specs.declared.Kind.TheVariants.{Setup, Ack, Nack}
use Rattle.packets.specs.declared.Packet.{Packet}
use Rattle.plan_queues.specs.Feeds.{of_side, to_unit}
use Rattle.rules.specs.State.{State}
use Rattle.rules.specs.Calls.{Call, read, execute, write, launch, reply}
use Rattle.rules.specs.Runs.Watch.{round, many_rounds, in_write, packet, each}

-- the last sender that a side of router 0 served, and the way to its unit
abbrev pub last_at_side : ℕ → State → List ℕ
last_at_side o s = s.last_sender (of_side 0 o) ∷ []

abbrev pub last_to_unit : State → List ℕ
last_to_unit s = s.last_sender (to_unit 0) ∷ []

-- ---- two senders at side 1: answer F[1], of rank 1, with NACKs of the unit, and K[0,1], of rank 2, with ACKs of
-- passive 0. The last in order has rank 4: an output starts as if it had sent
abbrev pub both_wait : List (List Call)
both_wait =
    -- round 0: two set-ups, then three for an entry that is booked; round 4: the passive accepts
    (each (launch 0 0) (8 ∷ 10 ∷ 8 ∷ 8 ∷ 8 ∷ []) ++ many_rounds 4 ++ in_write (reply 0 1))
    -- round 5: a NACK waits; it accepts again
    ∷ (write ∷ read ∷ [])
    ∷ (execute ∷ reply 0 1 ∷ write ∷ [])
    -- round 6: after READ and EXECUTE
    ∷ (read ∷ [])
    ∷ (execute ∷ [])
    ∷ []

abbrev pub two_senders : List (List Call)
two_senders =
    both_wait
    -- round 6: after WRITE; then after READ and WRITE of rounds 7 to 9
    ++ (write ∷ [])
    ∷ (read ∷ [])
    ∷ (execute ∷ write ∷ [])
    ∷ (read ∷ [])
    ∷ (execute ∷ write ∷ [])
    ∷ (read ∷ [])
    ∷ (execute ∷ write ∷ [])
    ∷ []

-- the unit's answer; passive 0's two; passive 1's
abbrev pub nack : Packet
nack = packet Nack 0 0 8 0

abbrev pub first : Packet
first = packet Ack 0 0 9 1

abbrev pub second : Packet
second = packet Ack 0 0 11 1

abbrev pub other : Packet
other = packet Ack 0 1 9 1

-- ---- three senders at side 1: answer F[1], K[0,1] and K[3,1], of rank 4, with passive 1's ACK
abbrev pub three_senders : List (List Call)
three_senders =
    -- round 0: a set-up to each passive, one more to passive 0, then two for an entry that is booked
    (launch 0 0 8 ∷ launch 0 1 8 ∷ each (launch 0 0) (10 ∷ 8 ∷ 8 ∷ [])
    -- rounds 4 and 5: a passive accepts
    ++ many_rounds 4 ++ in_write (reply 0 1) ++ write ∷ in_write (reply 1 1))
    -- round 6: a NACK and an ACK wait; passive 0 accepts again
    ∷ (write ∷ read ∷ [])
    ∷ (execute ∷ reply 0 1 ∷ write ∷ [])
    -- rounds 7 to 10: after READ and WRITE of each; round 11: after READ
    ∷ (read ∷ [])
    ∷ (execute ∷ write ∷ [])
    ∷ (read ∷ [])
    ∷ (execute ∷ write ∷ [])
    ∷ (read ∷ [])
    ∷ (execute ∷ write ∷ [])
    ∷ (read ∷ [])
    ∷ (execute ∷ write ∷ read ∷ [])
    ∷ []

-- answer F[1], K[0,1], K[3,1], and active 0's in-queue, where they arrive
abbrev pub waiting : List Packet → List Packet → List Packet → List Packet → List (List Packet)
waiting f k0 k3 ain = f ∷ k0 ∷ k3 ∷ ain ∷ []

-- ---- the way to the unit, with four senders U[0] to U[3]. All set-ups leave by side 0 here, so three of the four
-- can wait at once. (Before document 02 (i) this was so in every plan, or the queues would form a ring; BothEnds has
-- all four.)
abbrev pub three_actives : List (List Call)
three_actives =
    -- round 0: each active launches twice
    (launch 0 0 15 ∷ launch 0 0 14 ∷ launch 1 0 13 ∷ launch 1 0 12 ∷ launch 2 0 11 ∷ launch 2 0 10 ∷ round)
    -- after WRITE of rounds 1 to 6
    ∷ round
    ∷ round
    ∷ round
    ∷ round
    ∷ round
    ∷ round
    ∷ []

abbrev pub of : ℕ → ℕ → Packet
of a t = packet Setup a 0 t 0

-- ---- a round that is skipped: in round 10 active 0's set-up waits in set-up F[1] of router 0 and an ACK in K[2,1],
-- and the side's entry for slot 10 is booked, by that set-up itself
abbrev pub skipped_round : List (List Call)
skipped_round =
    -- round 0: active 1's set-up to passive 1, accepted in round 7; round 7: active 0's to passive 0
    (launch 1 1 0 ∷ many_rounds 7 ++ launch 0 0 10 ∷ in_write (reply 1 1) ++ write ∷ many_rounds 2 ++ read ∷ [])
    -- rounds 10, 11 and 12: after WRITE
    ∷ (execute ∷ write ∷ [])
    ∷ round
    ∷ round
    ∷ []
