-- 'Runs to compare' of document 01: 'Second launch with the allowance spent: 11.' One list of calls and one theorem
-- that evaluates it, on plan T: a second launch in round 0, and again as long as the answer is not dropped.
use Rattle.std.specs.Prelude.{List, [], ◌∷◌, ◌++◌, ℕ}
use Rattle.packets.specs.declared.Packet.{Packet}
use Rattle.rules.specs.State.{State}
use Rattle.rules.specs.Calls.{Call, read, execute, write, launch, reply, look, drop}
use Rattle.rules.specs.Runs.Watch.{round, allowance_in}
use Rattle.rules.specs.Runs.FirstBookings.{ack}

abbrev pub allowance_spent : List Call
allowance_spent =
    launch 0 0 0 ∷ launch 0 0 0 ∷ launch 0 0 1 ∷ round
    -- round 1
    ++ launch 0 0 1 ∷ round
    -- rounds 2 and 3
    ++ round
    ++ round
    -- round 4: accepted in its WRITE
    ++ read ∷ execute ∷ reply 0 1 ∷ write ∷ []
    -- rounds 5 to 7
    ++ round
    ++ round
    ++ round
    -- round 8: looked at and dropped in its WRITE
    ++ launch 0 0 1 ∷ read ∷ execute ∷ look 0 ∷ drop 0 ∷ write ∷ []
    -- round 9
    ++ launch 0 0 1 ∷ []

-- the active's allowance: it is spent; it is back
abbrev pub allowance0 : State → List ℕ
allowance0 s = allowance_in s 0 ∷ []

abbrev pub spent : List ℕ
spent = 0 ∷ []

abbrev pub back : List ℕ
back = 1 ∷ []

-- the active's out-queue and its in-queue: both are empty; a set-up is in the out-queue; the ACK is in the in-queue
abbrev pub quiet : List (List Packet)
quiet = [] ∷ [] ∷ []

abbrev pub in_out : Packet → List (List Packet)
in_out x = (x ∷ []) ∷ [] ∷ []

abbrev pub in_in : List (List Packet)
in_in = [] ∷ (ack ∷ []) ∷ []
