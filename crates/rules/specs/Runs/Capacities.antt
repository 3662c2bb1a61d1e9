-- Different capacities: each kind of queue is filled to its own, and beyond it a call is refused or the sender waits
-- with credit 0. 'Each active's allowance = the smaller of its two capacities.' One list of calls and one theorem
-- each.
use Rattle.std.specs.Prelude.{List, [], ◌∷◌, ◌++◌, ℕ}
use Rattle.packets.specs.declared.Kind.TheVariants.{Setup, Tdown}
use Rattle.packets.specs.declared.Packet.{Packet}
use Rattle.plan_queues.specs.Queue.{ahead, Queue, active_out, active_in, passive_in, passive_out, U, Q, F, K}
use Rattle.rules.specs.State.{State}
use Rattle.rules.specs.Calls.{Call, read, execute, write, launch, reply, look, drop}
use Rattle.rules.specs.Runs.Watch.{round, many_rounds, in_write, packet, allowance_in, count_in, credit_in, flag_in}
use Rattle.rules.specs.Runs.Watch.{each}

-- ---- the way to a passive. Document 02 (i) splits Q by incoming side: an active's own set-ups are to fill its Q and
-- its U, and three Qs fill. With Q 3 and U 4, as `narrow_there` has them, an allowance of 6 does not do it; with Q 1
-- and U 4 it does, and one set-up has to wait. The router is that of `narrow_there`: side 0 to passive 0, sides 1 to 3
-- to actives 0 to 2, S=16. Active out 6, in 7, U 4, Q 1, F 3, K 5, passive in 2, out 4.

-- nobody replies before round 17
abbrev pub fill_there : List (List Call)
fill_there =
    -- round 0: active 0 launches six times, and once more
    each (launch 0 0) (15 ∷ 14 ∷ 13 ∷ 12 ∷ 11 ∷ 10 ∷ [])
    ∷ (launch 0 0 9 ∷ [])
    -- rounds 0 to 9; round 10: actives 1 and 2 launch six times each, when the way from the unit on is active 0's
    ∷ (many_rounds 10
    ++ each (launch 1 0) (9 ∷ 8 ∷ 7 ∷ 6 ∷ 5 ∷ 4 ∷ [])
    ++ each (launch 2 0) (3 ∷ 2 ∷ 1 ∷ 0 ∷ 9 ∷ 8 ∷ []))
    -- rounds 10 to 15; round 16
    ∷ many_rounds 6
    ∷ round
    -- round 17: the passive replies; rounds 18 to 22: after READ of each
    ∷ in_write (reply 0 1)
    ∷ (write ∷ read ∷ [])
    ∷ (execute ∷ write ∷ read ∷ [])
    ∷ (execute ∷ write ∷ read ∷ [])
    ∷ (execute ∷ write ∷ read ∷ [])
    ∷ (execute ∷ write ∷ read ∷ [])
    ∷ []

-- U[2], U[3], Q[1], Q[2], Q[3], set-up F[0], passive 0's in-queue
abbrev pub way_ahead : List Queue
way_ahead = U 0 2 ∷ U 0 3 ∷ Q 0 1 ∷ Q 0 2 ∷ Q 0 3 ∷ F ahead 0 0 ∷ passive_in 0 ∷ []

-- the allowances of actives 0 to 2, the packets in their out-queues, then in the seven; the credits of the seven, and
-- the flag of the last
abbrev pub there : State → List ℕ
there s =
    each (allowance_in s) (0 ∷ 1 ∷ 2 ∷ []) ++ each (count_in s) (active_out 0 ∷ active_out 1 ∷ active_out 2 ∷ [])
    ++ each (count_in s) way_ahead
    ++ each (credit_in s) way_ahead
    ++ flag_in s (passive_in 0) ∷ []

-- the seven at their capacities, and at 0
abbrev pub full : List ℕ
full = 4 ∷ 4 ∷ 1 ∷ 1 ∷ 1 ∷ 3 ∷ 2 ∷ []

abbrev pub zeros : List ℕ
zeros = 0 ∷ 0 ∷ 0 ∷ 0 ∷ 0 ∷ 0 ∷ 0 ∷ []

-- the allowances are spent, and so many wait in the out-queues of actives 0 to 2
abbrev pub waiting : ℕ → ℕ → ℕ → List ℕ
waiting x y z = 0 ∷ 0 ∷ 0 ∷ x ∷ y ∷ z ∷ []

-- ---- the way back: passive in 4, passive out 2, K 1, active in 5. Four set-ups to passive 1 and one to passive 0
abbrev pub fill_back : List (List Call)
fill_back =
    -- round 0: five launches, and one more
    (launch 0 1 15 ∷ launch 0 1 14 ∷ launch 0 1 13 ∷ launch 0 1 12 ∷ launch 0 0 15 ∷ [])
    ∷ (launch 0 0 14 ∷ [])
    -- rounds 0 to 7
    ∷ many_rounds 8
    -- round 8: both passives reply, passive 1 once more
    ∷ (read ∷ execute ∷ reply 0 1 ∷ reply 1 1 ∷ [])
    ∷ (reply 1 1 ∷ [])
    -- rounds 9 and 10: passive 1 replies
    ∷ (write ∷ in_write (reply 1 1))
    ∷ (write ∷ in_write (reply 1 1))
    ∷ (write ∷ [])
    -- round 11: it tries to; round 12; round 13: it replies
    ∷ in_write (reply 1 1)
    ∷ (write ∷ round ++ in_write (reply 1 1))
    -- rounds 14 to 20; round 21: active 0 looks, and drops
    ∷ (write ∷ many_rounds 7)
    ∷ in_write (look 0)
    ∷ (drop 0 ∷ [])
    ∷ (write ∷ read ∷ [])
    ∷ []

-- active 0's allowance; packets in its out-queue, in passive 1's in-queue and out-queue, in K[0,1], K[3,1] and active
-- 0's in-queue; then the credits of passive 1's in-queue, of K[3,1] and of active 0's in-queue
abbrev pub back : State → List ℕ
back s =
    allowance_in s 0 ∷ each (count_in s) (active_out 0 ∷ passive_in 1 ∷ passive_out 1 ∷ K 0 0 1 ∷ K 0 3 1 ∷ active_in 0
    ∷ [])
    ++ each (credit_in s) (passive_in 1 ∷ K 0 3 1 ∷ active_in 0 ∷ [])

-- ---- an out-queue of 2 that holds a TDOWN, with an allowance left: Launch gives 12
abbrev pub fill_out : List (List Call)
fill_out =
    -- rounds 0 to 3; round 4: declined
    (launch 0 0 6 ∷ many_rounds 4)
    ∷ in_write (reply 0 0)
    -- rounds 5 and 6; round 7: the NACK comes and is marked, looked at and dropped
    ∷ (write ∷ many_rounds 2 ++ in_write (look 0))
    ∷ (drop 0 ∷ [])
    -- round 8: two launches; round 9: the second again
    ∷ (write ∷ launch 0 0 4 ∷ [])
    ∷ (launch 0 0 5 ∷ [])
    ∷ (round ++ launch 0 0 5 ∷ [])
    ∷ []

abbrev pub allowance0 : State → List ℕ
allowance0 s = allowance_in s 0 ∷ []

abbrev pub tdown : Packet
tdown = packet Tdown 0 0 6 1

-- the set-up launched with a slot
abbrev pub setup : ℕ → Packet
setup t = packet Setup 0 0 t 0
