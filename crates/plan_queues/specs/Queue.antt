-- The queues by name, and their numbers: out-queues first, then each router's, then the in-queues.
use Rattle.std.specs.Prelude.{◌≢◌, ℕ, zero, suc, ◌+◌, ◌*◌, ◌-◌, ◌/◌, ◌%◌, ◌<◌, ltb}
use Rattle.basis.specs.Choice.{pick}
use Rattle.plan.specs.Plan.{Plan, R, A, P}

-- 'SETUP and TDOWN go to the passive, ACK and NACK to the active'
pub data Heading : Type 0 where
  ahead : Heading
  back : Heading

-- 'active out and in; passive in and out; per router U[i] (system packets from side i, for the unit), Q (at the unit),
-- F[o] (from unit to side o), K[i,o] with i≠o (answers crossing)'; by document 02 (i) 'Split Q by incoming side, and
-- F[o] into one queue for set-ups and tear-downs and one for answers': Q r i, and F ahead r o, F back r o
pub data Queue : Type 0 where
  active_out : ℕ → Queue
  active_in : ℕ → Queue
  passive_in : ℕ → Queue
  passive_out : ℕ → Queue
  U : ℕ → ℕ → Queue
  Q : ℕ → ℕ → Queue
  F : Heading → ℕ → ℕ → Queue
  K : ℕ → ℕ → ℕ → Queue

-- the queues that a plan has
abbrev pub Exists : Plan → Queue → Type 0
Exists pl (active_out a) = a < A pl
Exists pl (active_in a) = a < A pl
Exists pl (passive_in p) = p < P pl
Exists pl (passive_out p) = p < P pl
Exists pl (U r i) = (r < R pl) × (i < 4)
Exists pl (Q r i) = (r < R pl) × (i < 4)
Exists pl (F h r o) = (r < R pl) × (o < 4)
Exists pl (K r i o) = (r < R pl) × (i < 4) × (o < 4) × (i ≢ o)

-- ---- numbers
-- a router's queues: U[0] to U[3], Q[0] to Q[3], then for each side its senders in order: F[o] of set-ups and
-- tear-downs, F[o] of answers, and K[i,o] by i
abbrev pub per_router : ℕ
per_router = 28

-- the place of F[o] among the senders of side o
abbrev pub rank_of : Heading → ℕ
rank_of ahead = 0
rank_of back = 1

-- the place of K[i,o]: behind them by i, without i = o
abbrev pub rank : ℕ → ℕ → ℕ
rank i o = pick (ltb i o) (suc (suc i)) (suc i)

abbrev pub outs : Plan → ℕ
outs pl = A pl + P pl

abbrev pub router_base : Plan → ℕ → ℕ
router_base pl r = outs pl + per_router * r

-- the first in-queue
abbrev pub in_base : Plan → ℕ
in_base pl = router_base pl (R pl)

-- the sender of rank k at side o of router r
abbrev pub sender : Plan → ℕ → ℕ → ℕ → ℕ
sender pl r o k = router_base pl r + 8 + 5 * o + k

unfoldable pub number : Plan → Queue → ℕ
number pl (active_out a) = a
number pl (passive_out p) = A pl + p
number pl (U r i) = router_base pl r + i
number pl (Q r i) = router_base pl r + 4 + i
number pl (F h r o) = sender pl r o (rank_of h)
number pl (K r i o) = sender pl r o (rank i o)
number pl (active_in a) = in_base pl + a
number pl (passive_in p) = in_base pl + A pl + p

unfoldable pub queues : Plan → ℕ
queues pl = in_base pl + outs pl

-- ---- the queue of a number
-- the sender of rank k at side o
abbrev pub sender_at : ℕ → ℕ → ℕ → Queue
sender_at r o zero = F ahead r o
sender_at r o (suc zero) = F back r o
sender_at r o (suc (suc k)) = K r (pick (ltb k o) k (suc k)) o

-- the k-th queue of a router
abbrev pub in_router : ℕ → ℕ → Queue
in_router r k = pick (ltb k 4) (U r k) (pick (ltb k 8) (Q r (k - 4)) (sender_at r ((k - 8) / 5) ((k - 8) % 5)))

unfoldable pub queue_at : Plan → ℕ → Queue
queue_at pl n =
    pick (ltb n (A pl)) (active_out n)
    (pick (ltb n (outs pl)) (passive_out (n - A pl))
    (pick (ltb n (in_base pl)) (in_router ((n - outs pl) / 28) ((n - outs pl) % 28))
    (pick (ltb n (in_base pl + A pl)) (active_in (n - in_base pl)) (passive_in (n - in_base pl - A pl)))))
