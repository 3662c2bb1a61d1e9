-- Document 02 (c), 'Look before dropping': 'The arm program wants to show the answer on the panel before it gives back
-- the allowance'. Each run is one list of calls and one theorem that evaluates it. Rounds are counted from 0.
use Rattle.std.specs.Prelude.{List, [], ◌∷◌, ◌++◌, ℕ}
use Rattle.packets.specs.declared.Kind.TheVariants.{Ack, Nack}
use Rattle.packets.specs.declared.Packet.{Packet}
use Rattle.plan_queues.specs.Queue.{active_in}
use Rattle.rules.specs.State.{State}
use Rattle.rules.specs.Calls.{Call, read, execute, write, launch, reply, look, drop}
use Rattle.rules.specs.Runs.Watch.{many_rounds, in_write, packet, allowance_in, flag_in, connection_in}

-- ---- 'Look returns the head in any phase and changes nothing .. Look gives 9 and 13'. Plan T
abbrev pub any_phase : List (List Call)
any_phase =
    -- round 4: accepted; round 7, READ: the ACK is on the wire, and not in the in-queue
    (launch 0 0 0 ∷ many_rounds 4 ++ in_write (reply 0 1) ++ write ∷ many_rounds 2)
    ∷ (look 0 ∷ [])
    ∷ (look 1 ∷ [])
    -- EXECUTE, WRITE, and READ of round 8
    ∷ (read ∷ look 0 ∷ [])
    ∷ (execute ∷ look 0 ∷ [])
    ∷ (write ∷ look 0 ∷ [])
    -- WRITE of round 8: dropped; then there is nothing to show, and 13 is said of it also while the flag is up
    ∷ in_write (look 1)
    ∷ (look 0 ∷ [])
    ∷ (drop 0 ∷ [])
    ∷ (look 0 ∷ [])
    ∷ (drop 0 ∷ [])
    ∷ []

-- the active's allowance, the flag of its in-queue, and whether its connection is accepted
abbrev pub panel : State → List ℕ
panel s = allowance_in s 0 ∷ flag_in s (active_in 0) ∷ connection_in s 0 0 0 ∷ []

-- ---- two answers wait: Look, Drop, Look shows the next, while Drop says 14. S=8, active out 2: two set-ups, slots 6
-- and 7, both accepted
abbrev pub both_accepted : List Call
both_accepted =
    -- rounds 0 to 3; accepted in rounds 4 and 5; rounds 6 and 7
    launch 0 0 6 ∷ launch 0 0 7 ∷ many_rounds 4 ++ in_write (reply 0 1)
    ++ write ∷ in_write (reply 0 1) ++ write ∷ many_rounds 2

abbrev pub next_head : List (List Call)
next_head =
    -- round 8: both ACKs are there
    (both_accepted ++ in_write (look 0))
    ∷ (drop 0 ∷ [])
    ∷ (look 0 ∷ [])
    ∷ (drop 0 ∷ [])
    -- round 9: READ, then WRITE
    ∷ (write ∷ look 0 ∷ [])
    ∷ in_write (look 0)
    ∷ (drop 0 ∷ [])
    ∷ []

-- the ACKs: slots 6 + 1 and 7 + 1 modulo 8, hub 1
abbrev pub first : Packet
first = packet Ack 0 0 7 1

abbrev pub second : Packet
second = packet Ack 0 0 0 1

-- the active's allowance, the flag of its in-queue, and whether the connections from slots 6 and 7 are accepted
abbrev pub both_panel : State → List ℕ
both_panel s = allowance_in s 0 ∷ flag_in s (active_in 0) ∷ connection_in s 0 0 6 ∷ connection_in s 0 0 7 ∷ []

-- ---- 'within the phase' is needed: EXECUTE may mark the NACK between a Look and the Drop. Plan T; round 4: the
-- passive declines
abbrev pub across_the_phase : List (List Call)
across_the_phase =
    -- round 7: after READ, EXECUTE, and the Drop
    (launch 0 0 0 ∷ many_rounds 4 ++ in_write (reply 0 0) ++ write ∷ many_rounds 2 ++ read ∷ look 0 ∷ [])
    ∷ (execute ∷ look 0 ∷ [])
    ∷ (drop 0 ∷ [])
    ∷ []

-- the NACK as it came, and as it is removed
abbrev pub unmarked_nack : Packet
unmarked_nack = packet Nack 0 0 1 1

abbrev pub marked_nack : Packet
marked_nack = packet Nack 0 0 1 0
