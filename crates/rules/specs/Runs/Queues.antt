-- 'Queues, first in first out': the head is answered, and a packet that stays keeps its place. One list of calls
-- and one theorem that evaluates it. Rounds are counted from 0.
use Rattle.std.specs.Prelude.{List, [], ◌∷◌, ◌++◌, ℕ}
use Rattle.packets.specs.declared.Kind.{Kind}
use Rattle.packets.specs.declared.Packet.{Packet}
use Rattle.rules.specs.Calls.{Call, read, execute, write, launch, reply, drop}
use Rattle.rules.specs.Runs.Watch.{many_rounds, in_write, packet, each}

-- three set-ups wait at passive 0. It accepts the first and declines the two others; the ACK is dropped only when all
-- three answers are there
abbrev pub three_answers : List (List Call)
three_answers =
    -- round 0: three launches; round 7: after EXECUTE, and after the first Reply
    (each (launch 0 0) (8 ∷ 9 ∷ 10 ∷ []) ++ many_rounds 7 ++ read ∷ execute ∷ [])
    ∷ (reply 0 1 ∷ [])
    -- rounds 8 and 9: the two others; rounds 10 to 17; round 18: the ACK is dropped
    ∷ (write ∷ in_write (reply 0 0) ++ write ∷ in_write (reply 0 0) ++ write ∷ many_rounds 8)
    ∷ in_write (drop 0)
    -- round 19: after READ, and after EXECUTE
    ∷ (write ∷ read ∷ [])
    ∷ (execute ∷ [])
    ∷ []

abbrev pub of : Kind → ℕ → ℕ → Packet
of k t h = packet k 0 0 t h
