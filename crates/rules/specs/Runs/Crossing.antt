-- Document 02 (i): 'the crossing two-router plan'. Set-ups cross both ways: both are booked at both routers, both
-- answers come back. Two routers, joined by their sides 2, each with an active on side 0 and a passive on side 1; S=4,
-- capacities 1; active 0 to passive 1, active 1 to passive 0.
use Rattle.std.specs.Prelude.{List, [], ◌∷◌, ◌++◌, ℕ}
use Rattle.packets.specs.declared.Packet.{Packet}
use Rattle.rules.specs.State.{State}
use Rattle.rules.specs.Calls.{Call, read, execute, write, launch, reply, drop}
use Rattle.rules.specs.Runs.Watch.{many_rounds, entry_in}

abbrev pub both_ways : List (List Call)
both_ways =
    -- rounds 0 and 1; round 2: at the first unit, in Q[0]
    (launch 0 1 0 ∷ launch 1 0 0 ∷ many_rounds 2 ++ read ∷ execute ∷ [])
    -- rounds 3, 4; round 5: at the second unit, in Q[2]
    ∷ (write ∷ many_rounds 2 ++ read ∷ execute ∷ [])
    -- round 6; round 7: at the passives, which accept
    ∷ (write ∷ many_rounds 1 ++ read ∷ execute ∷ [])
    -- rounds 8 to 10; round 11: the answers are there
    ∷ (reply 0 1 ∷ reply 1 1 ∷ write ∷ many_rounds 3 ++ read ∷ execute ∷ [])
    ∷ (drop 0 ∷ drop 1 ∷ write ∷ [])
    ∷ []

-- the entries of sides 2 and 1 of router 0, and of router 1, that the two set-ups book
abbrev pub booked : State → List ℕ
booked s = entry_in s 0 2 0 ∷ entry_in s 1 1 1 ∷ entry_in s 1 2 0 ∷ entry_in s 0 1 1 ∷ []

abbrev pub none : List Packet
none = []
