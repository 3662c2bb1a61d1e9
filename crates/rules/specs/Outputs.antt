-- The outputs: their numbers, their senders in order, and the next queue of a packet that leaves by one.
use Rattle.std.specs.Prelude.{List, [], ◌∷◌, ℕ, ◌+◌, ◌*◌, ◌-◌, ◌/◌, ◌%◌, ltb, eqb, length}
use Rattle.std.proofs.Math.Option.{Option}
use Rattle.basis.specs.Choice.{pick}
use Rattle.packets.specs.declared.Packet.{Packet}
use Rattle.plan.specs.Plan.{Plan, R, A, P}
use Rattle.plan_queues.specs.Queue.{Queue, active_out, passive_out, U, Q, sender_at}
use Rattle.plan_queues.specs.Feeds.{Output, of_active, of_passive, of_side, to_unit, from_unit, heading_of, beyond}

-- the next queue of a packet that leaves by an output: for READ, EXECUTE, WRITE, feeding and refusal 7
abbrev pub next_by : Plan → Output → Packet → Option Queue
next_by pl o x = beyond pl (heading_of x.kind) x.active x.passive o

-- an output's senders in order: 'A side's order is now set-up F, answer F, then K' (document 02 (i)), K[0,o] to K[3,o]
-- without K[o,o]; U[0] to U[3] to the unit; Q[0] to Q[3] to F; an interface's out-queue
abbrev pub senders : Output → List Queue
senders (of_active a) = active_out a ∷ []
senders (of_passive p) = passive_out p ∷ []
senders (of_side r o) =
    sender_at r o 0 ∷ sender_at r o 1 ∷ sender_at r o 2 ∷ sender_at r o 3 ∷ sender_at r o 4 ∷ []
senders (to_unit r) = U r 0 ∷ U r 1 ∷ U r 2 ∷ U r 3 ∷ []
senders (from_unit r) = Q r 0 ∷ Q r 1 ∷ Q r 2 ∷ Q r 3 ∷ []

-- the rank of 'the last in order'; an output with one sender has no other rank, and nothing to remember
abbrev pub last_in_order : Output → ℕ
last_in_order o = length (senders o) - 1

-- ---- numbers: interfaces' outputs first, then each router's four sides, to its unit, and back
abbrev pub outputs : Plan → ℕ
outputs pl = A pl + P pl + 6 * R pl

abbrev pub router_output : ℕ → ℕ → Output
router_output r k = pick (ltb k 4) (of_side r k) (pick (eqb k 4) (to_unit r) (from_unit r))

unfoldable pub output_at : Plan → ℕ → Output
output_at pl n =
    pick (ltb n (A pl)) (of_active n)
    (pick (ltb n (A pl + P pl)) (of_passive (n - A pl))
    (router_output ((n - (A pl + P pl)) / 6) ((n - (A pl + P pl)) % 6)))

unfoldable pub output_number : Plan → Output → ℕ
output_number pl (of_active a) = a
output_number pl (of_passive p) = A pl + p
output_number pl (of_side r o) = A pl + P pl + 6 * r + o
output_number pl (to_unit r) = A pl + P pl + 6 * r + 4
output_number pl (from_unit r) = A pl + P pl + 6 * r + 5
