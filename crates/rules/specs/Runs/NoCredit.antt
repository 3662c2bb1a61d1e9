-- 'A candidate has a head (in Q a handled one) and its next queue has credit': a head whose next queue has none is
-- passed over, and holds up nobody. One list of calls and one theorem that evaluates it. Rounds are counted from 0.
use Rattle.std.specs.Prelude.{List, [], ◌∷◌, ◌++◌, ℕ}
use Rattle.packets.specs.declared.Kind.TheVariants.{Setup, Ack}
use Rattle.packets.specs.declared.Packet.{Packet}
use Rattle.plan_queues.specs.Queue.{U}
use Rattle.plan_queues.specs.Feeds.{of_side}
use Rattle.rules.specs.State.{State}
use Rattle.rules.specs.Calls.{Call, read, execute, write, launch, reply}
use Rattle.rules.specs.Runs.Watch.{round, many_rounds, in_write, packet, credit_in, each}

-- two routers, joined by their sides 2, each with an active on side 0 and a passive on side 1; S=8, active out 4,
-- active in 4, all other capacities 1. Passive 1 never replies, so active 0's set-ups to it stand in a row back to
-- router 0; passive 0 accepts twice.
abbrev pub row_of_set_ups : List (List Call)
row_of_set_ups =
    -- round 0: active 1 launches twice to passive 0 and once to passive 1, active 0 four times to passive 1
    (each (launch 1 0) (0 ∷ 2 ∷ []) ++ launch 1 1 4 ∷ each (launch 0 1) (0 ∷ 2 ∷ 4 ∷ 6 ∷ [])
    -- rounds 8 and 11: passive 0 accepts
    ++ many_rounds 8 ++ in_write (reply 0 1) ++ write ∷ many_rounds 2 ++ read ∷ [])
    -- round 11: after READ and WRITE; round 13: after READ and WRITE; round 14: after READ
    ∷ (execute ∷ reply 0 1 ∷ write ∷ [])
    ∷ (round ++ read ∷ [])
    ∷ (execute ∷ write ∷ [])
    ∷ (read ∷ [])
    ∷ []

-- the credit of U[2] of router 1, to which set-up F[2] of router 0 sends, and the last sender of that side
abbrev pub credit_and_last : State → List ℕ
credit_and_last s = credit_in s (U 1 2) ∷ s.last_sender (of_side 0 2) ∷ []

-- active 0's last set-up, booked at router 0; active 1's two answers
abbrev pub setup : Packet
setup = packet Setup 0 1 7 1

abbrev pub first : Packet
first = packet Ack 1 0 2 2

abbrev pub second : Packet
second = packet Ack 1 0 4 2
