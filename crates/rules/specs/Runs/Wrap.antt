-- A walk of four routers with S=3: the slots that it books go round past 0 more than once, and the ACK's slot minus
-- hub modulo S is the start slot. One list of calls; a theorem that evaluates it, and one for the connection accepted.
use Rattle.std.specs.Prelude.{List, [], ◌∷◌, ◌++◌, ℕ}
use Rattle.packets.specs.declared.Kind.TheVariants.{Setup}
use Rattle.packets.specs.declared.Packet.{Packet}
use Rattle.rules.specs.State.{State}
use Rattle.rules.specs.Calls.{Call, read, execute, write, launch, reply, look, drop}
use Rattle.rules.specs.Runs.Watch.{many_rounds, in_write, packet, entry_in}

-- active 0 launches with slot 2
abbrev pub going_round : List (List Call)
going_round =
    -- rounds 0 and 1, then round 2: at the unit of router 0
    (launch 0 0 2 ∷ many_rounds 2 ++ read ∷ [])
    ∷ (execute ∷ [])
    -- round 5: at that of router 1
    ∷ (write ∷ many_rounds 2 ++ read ∷ [])
    ∷ (execute ∷ [])
    -- round 9: of router 2
    ∷ (write ∷ many_rounds 3 ++ read ∷ [])
    ∷ (execute ∷ [])
    -- round 13: of router 3
    ∷ (write ∷ many_rounds 3 ++ read ∷ [])
    ∷ (execute ∷ [])
    -- round 16: at the passive, which accepts
    ∷ (write ∷ many_rounds 2 ++ read ∷ [])
    ∷ (execute ∷ reply 0 1 ∷ [])
    -- round 22: the ACK is looked at and dropped
    ∷ (write ∷ many_rounds 5 ++ in_write (look 0))
    ∷ (drop 0 ∷ [])
    ∷ []

-- the entries of side 1 of routers 0 to 3, three each
abbrev pub sides1 : State → List ℕ
sides1 s =
    entry_in s 0 1 0 ∷ entry_in s 0 1 1 ∷ entry_in s 0 1 2 ∷ entry_in s 1 1 0 ∷ entry_in s 1 1 1 ∷ entry_in s 1 1 2
    ∷ entry_in s 2 1 0 ∷ entry_in s 2 1 1 ∷ entry_in s 2 1 2 ∷ entry_in s 3 1 0 ∷ entry_in s 3 1 1 ∷ entry_in s 3 1 2 ∷
    []

-- a router's three: free, or booked in slot 0, 1 or 2 with side 0, by which the walk comes in
abbrev pub free : List ℕ
free = 4 ∷ 4 ∷ 4 ∷ []

abbrev pub slot0 : List ℕ
slot0 = 0 ∷ 4 ∷ 4 ∷ []

abbrev pub slot1 : List ℕ
slot1 = 4 ∷ 0 ∷ 4 ∷ []

abbrev pub slot2 : List ℕ
slot2 = 4 ∷ 4 ∷ 0 ∷ []

-- Q[0] of routers 0 to 3, the passive's in-queue
abbrev pub seen : List Packet → List Packet → List Packet → List Packet → List Packet → List (List Packet)
seen q0 q1 q2 q3 pin = q0 ∷ q1 ∷ q2 ∷ q3 ∷ pin ∷ []

-- the set-up with its slot and hub
abbrev pub setup : ℕ → ℕ → List Packet
setup t h = packet Setup 0 0 t h ∷ []
