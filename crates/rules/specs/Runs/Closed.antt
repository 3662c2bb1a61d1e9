-- Document 02 (a), closing a connection: 'After the last cup the camera no longer needs its slots'. Each run is one
-- list of calls and one theorem that evaluates it. Rounds are counted from 0: round n begins with the current slot n
-- modulo 4.
use Rattle.std.specs.Prelude.{List, [], ◌∷◌, ◌++◌, ℕ}
use Rattle.packets.specs.declared.Kind.TheVariants.{Tdown, Ack}
use Rattle.packets.specs.declared.Packet.{Packet}
use Rattle.plan_queues.specs.Queue.{Queue, active_out, active_in, Q}
use Rattle.rules.specs.State.{State}
use Rattle.rules.specs.Calls.{Call, read, execute, write, launch, reply, look, drop, close}
use Rattle.rules.specs.Runs.Watch.{many_rounds, in_write, packet, entry_in, connection_in, allowance_in}
use Rattle.rules.specs.Runs.Declined.{both_sides}

-- ---- two routers, S=4. Active 1, at the second router, is connected from slot 0 on; active 0, at the first, from
-- slot 2.
-- The calls up to the WRITE in which active 1 has dropped its ACK: round 7
abbrev pub other_connects : List Call
other_connects =
    launch 1 0 0 ∷ many_rounds 4 ++ in_write (reply 0 1) ++ write ∷ many_rounds 2 ++ in_write (drop 1)

-- from the end of that WRITE on, or of any later round 4n + 3: active 0 launches with slot 2 in the next round, its
-- set-up is accepted seven rounds later, and its ACK is on the wire to it at the start of the round four later
abbrev pub connecting : List Call
connecting = write ∷ launch 0 0 2 ∷ many_rounds 7 ++ in_write (reply 0 1) ++ write ∷ many_rounds 3

-- The walks leave each router by side 1: the entries of that side for slots 0 to 3, at the first router, then at the
-- second; then whether the state keeps the connection of active 0 from slot 2, and that of active 1 from slot 0
abbrev pub table_and_kept : State → List ℕ
table_and_kept s = both_sides s ++ (connection_in s 0 0 2 ∷ connection_in s 1 0 0 ∷ [])

-- the first router's slot 2 and the second one's slot 3 are booked for active 0, which comes in by side 0 at both; the
-- second one's slot 0 for active 1, which comes in by side 2; kept are the connections that the two numbers say
abbrev pub both_booked : ℕ → ℕ → List ℕ
both_booked m n = 4 ∷ 4 ∷ 0 ∷ 4 ∷ 2 ∷ 4 ∷ 4 ∷ 0 ∷ m ∷ n ∷ []

-- the first router's entry is free again; both are
abbrev pub first_freed : List ℕ
first_freed = 4 ∷ 4 ∷ 4 ∷ 4 ∷ 2 ∷ 4 ∷ 4 ∷ 0 ∷ 0 ∷ 1 ∷ []

abbrev pub both_freed : List ℕ
both_freed = 4 ∷ 4 ∷ 4 ∷ 4 ∷ 2 ∷ 4 ∷ 4 ∷ 4 ∷ 0 ∷ 1 ∷ []

-- active 0's out-queue and in-queue, Q[0] of the first router and of the second
abbrev pub places : List Queue
places = active_out 0 ∷ active_in 0 ∷ Q 0 0 ∷ Q 1 0 ∷ []

abbrev pub seen : List Packet → List Packet → List Packet → List Packet → List (List Packet)
seen out ain q0 q1 = out ∷ ain ∷ q0 ∷ q1 ∷ []

abbrev pub quiet : List (List Packet)
quiet = seen [] [] [] []

-- active 0's ACK: slot 2 + 2 modulo 4, hub 2
abbrev pub ack : Packet
ack = packet Ack 0 0 0 2

-- the TDOWN of its Close: 'slot the start slot, hub the number of routers on the walk'; and when the first router has
-- freed its entry
abbrev pub closing : Packet
closing = packet Tdown 0 0 2 2

abbrev pub passed_on : Packet
passed_on = packet Tdown 0 0 3 1

-- ---- opened, closed, and opened again at the same start
abbrev pub opened_closed_opened : List (List Call)
opened_closed_opened =
    other_connects
    ∷ connecting
    -- round 19, READ: the ACK is on the wire: the connection is not accepted yet
    ∷ (close 0 0 2 ∷ [])
    -- the ACK is there and is looked at, and still it is not accepted: WRITE is no time to close, either
    ∷ (read ∷ [])
    ∷ (execute ∷ look 0 ∷ [])
    ∷ (close 0 0 2 ∷ [])
    -- dropped
    ∷ (drop 0 ∷ [])
    -- round 20, READ: another start, another pair; the connection itself; once more
    ∷ (write ∷ close 0 0 3 ∷ [])
    ∷ (close 1 0 2 ∷ [])
    ∷ (close 0 0 2 ∷ [])
    ∷ (close 0 0 2 ∷ [])
    -- the out-queue has the TDOWN: no launch
    ∷ (launch 0 0 2 ∷ [])
    -- rounds 20 and 21, then round 22: the first router frees its entry
    ∷ (many_rounds 2 ++ read ∷ [])
    ∷ (execute ∷ [])
    -- rounds 23 and 24, then round 25: the second one, and the TDOWN ends
    ∷ (write ∷ many_rounds 2 ++ read ∷ [])
    ∷ (execute ∷ [])
    -- rounds 26 and 27, then the same set-up again
    ∷ (write ∷ many_rounds 1 ++ read ∷ execute ∷ [])
    ∷ connecting
    ∷ (read ∷ execute ∷ [])
    ∷ (drop 0 ∷ [])
    ∷ []

-- ---- accepted, closed and accepted again on plan T: told by the calls and the states before them, the connection is
-- accepted once, though an ACK of it was looked at and dropped twice
abbrev pub connects : List Call
connects =
    launch 0 0 0 ∷ many_rounds 4 ++ in_write (reply 0 1)
    ++ write ∷ many_rounds 2 ++ in_write (look 0) ++ drop 0 ∷ write ∷ []

abbrev pub accepted_twice : List (List Call)
accepted_twice = connects ∷ (close 0 0 0 ∷ many_rounds 4) ∷ connects ∷ []

-- ---- the refusals' order, 8, 9, 10, 16, 12, where the conditions of two or more hold at once. Three actives, two
-- passives, S=4; actives 0 and 1 are not served with passive 1
abbrev pub closes_tried : List (List Call)
closes_tried =
    -- READ
    (close 3 0 0 ∷ [])
    ∷ (close 0 2 0 ∷ [])
    ∷ (close 0 0 4 ∷ [])
    ∷ (close 0 1 4 ∷ [])
    ∷ (close 0 1 0 ∷ [])
    ∷ (close 0 0 0 ∷ [])
    -- the out-queue is full
    ∷ (launch 0 0 0 ∷ [])
    ∷ (close 0 0 0 ∷ [])
    ∷ (close 0 1 0 ∷ [])
    -- EXECUTE, then WRITE
    ∷ (read ∷ close 3 0 0 ∷ [])
    ∷ (execute ∷ close 0 1 0 ∷ [])
    ∷ []

-- the allowance of active 0
abbrev pub allowance : State → List ℕ
allowance s = allowance_in s 0 ∷ []

-- ---- a Close with the out-queue full, which is accepted later; and it costs no allowance: plan T
abbrev pub closed_later : List (List Call)
closed_later =
    connects
    -- round 8, READ: a launch fills the out-queue and spends the only allowance
    ∷ (launch 0 0 1 ∷ [])
    ∷ (close 0 0 0 ∷ [])
    -- round 9, READ: the set-up is on its way
    ∷ many_rounds 1
    ∷ (close 0 0 0 ∷ [])
    ∷ []

-- the allowance, the entry of side 1 for slot 0, and whether the connection is kept
abbrev pub allowance_and_kept : State → List ℕ
allowance_and_kept s = allowance_in s 0 ∷ entry_in s 0 1 0 ∷ connection_in s 0 0 0 ∷ []
