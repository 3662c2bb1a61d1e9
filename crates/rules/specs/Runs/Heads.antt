-- 'Each unit handles Q's head once, if not yet handled, and no second head in that round; the handled mark goes when
-- that head leaves or ends.' One list of calls and one theorem that evaluates it: a handled set-up that must wait,
-- behind it a TDOWN that ends at this unit, behind it another set-up. Document 02 (i) splits Q by incoming side: 'a
-- unit handles each queue's unhandled head once in a round'. So all three are active 0's, to stand in one queue,
-- Q[1]. The figures are those of the one Q that two actives shared.
use Rattle.std.specs.Prelude.{List, [], ◌∷◌, ◌++◌, ℕ}
use Rattle.packets.specs.declared.Kind.TheVariants.{Setup, Tdown}
use Rattle.packets.specs.declared.Packet.{Packet}
use Rattle.plan_queues.specs.Queue.{Q}
use Rattle.rules.specs.State.{State}
use Rattle.rules.specs.Calls.{Call, read, execute, write, launch, reply}
use Rattle.rules.specs.Runs.Watch.{round, many_rounds, in_write, packet, entry_in, credit_in, flag_in}

abbrev pub heads_in_turn : List (List Call)
heads_in_turn =
    -- rounds 0 to 3: active 0 launches, and again: these set-ups fill the way to passive 0: passive in 1, F 2, Q
    (launch 0 0 15 ∷ many_rounds 3 ++ launch 0 0 0 ∷ launch 0 0 1 ∷ launch 0 0 2 ∷ launch 0 0 3 ∷ round)
    -- round 4: the first one is declined; rounds 5 to 7: its NACK comes back, and a TDOWN joins the out-queue
    ∷ (in_write (reply 0 0) ++ write ∷ many_rounds 3)
    -- rounds 8 to 10: active 0 launches behind it; round 11
    ∷ (launch 0 0 4 ∷ many_rounds 3 ++ read ∷ execute ∷ [])
    -- passive 0 replies; rounds 12 and 13: the way is free for one
    ∷ (reply 0 1 ∷ write ∷ many_rounds 2)
    -- round 14: READ, EXECUTE, WRITE
    ∷ (read ∷ [])
    ∷ (execute ∷ [])
    ∷ (write ∷ [])
    -- round 15: READ, EXECUTE
    ∷ (read ∷ [])
    ∷ (execute ∷ [])
    ∷ []

-- the entries of side 0 for slots 15 and 4, the credit of Q[1] and its flag
abbrev pub watched : State → List ℕ
watched s = entry_in s 0 0 15 ∷ entry_in s 0 0 4 ∷ credit_in s (Q 0 1) ∷ flag_in s (Q 0 1) ∷ []

-- the last of the set-ups that fill the way, handled; the TDOWN; the set-up behind it, as launched and booked
abbrev pub waiting : Packet
waiting = packet Setup 0 0 4 1

abbrev pub tdown : Packet
tdown = packet Tdown 0 0 15 1

abbrev pub next_setup : Packet
next_setup = packet Setup 0 0 4 0

abbrev pub next_booked : Packet
next_booked = packet Setup 0 0 5 1
