-- The next queue of a packet that leaves by an output, as its number: what the code computes from the tables.
use Rattle.std.specs.Prelude.{◌≡◌, Bool, List, [], ℕ, ◌+◌, ◌*◌, ◌-◌, ◌/◌, ◌%◌, eqb, ltb, get_or}
use Rattle.std.proofs.Math.Option.{Option, none, some}
use Rattle.basis.specs.Choice.{pick}
use Rattle.packets.specs.declared.Packet.{Packet}
pub use Rattle.packets.specs.Directions.{goes_back}
use Rattle.plan.specs.declared.Head.{Head}
use Rattle.plan.specs.Head.{destinations}
use Rattle.plan.specs.Plan.{Plan, no_side}
use Rattle.plan_queues.specs.Queue.{Queue, Q, number, rank}
use Rattle.plan_queues.specs.Feeds.{Output, to_unit, came_in}
use Rattle.bytes_layout.specs.Named.{exists_test}

-- no queue
abbrev pub no_queue : ℕ
no_queue = 65535

-- ---- what is meant: the number of a queue that the plan has
abbrev pub number_or : Plan → Option Queue → ℕ
number_or pl none = no_queue
number_or pl (some q) = pick (exists_test pl q) (number pl q) no_queue

-- ---- what the code computes
-- the first of a router's queues
abbrev pub base_of : Head → ℕ → ℕ
base_of h r = destinations h + 28 * r

-- the first in-queue
abbrev pub in_base_of : Head → ℕ
in_base_of h = base_of h h.routers

-- the count of outputs
abbrev pub outputs_of : Head → ℕ
outputs_of h = destinations h + 6 * h.routers

-- K[i,o] of the router whose queues begin at base, if there is one
unfoldable pub crossed_of : ℕ → ℕ → ℕ → ℕ
crossed_of base i o = pick (ltb o 4) (pick (eqb i o) no_queue (base + 8 + 5 * o + rank i o)) no_queue

-- F[o] of set-ups and tear-downs, or behind it that of answers, if there is one
unfoldable pub leaves_of : ℕ → Bool → ℕ → ℕ
leaves_of base back o = pick (ltb o 4) (pick back (base + 8 + 5 * o + 1) (base + 8 + 5 * o)) no_queue

-- the queue of a packet that enters by a port
unfoldable pub entered_of : Head → List (List ℕ) → ℕ → Bool → ℕ → ℕ
entered_of h routes port back a =
    pick back (crossed_of (base_of h (port / 4)) (port % 4) (get_or (get_or routes (port / 4) []) a no_side))
    (base_of h (port / 4) + port % 4)

-- and of one that leaves by a joint
unfoldable pub across_of : Head → List (List ℕ) → ℕ → Bool → ℕ → ℕ
across_of h routes v back a =
    pick (eqb (v / 64) 1) (entered_of h routes (v % 64) back a)
    (pick (eqb (v / 64) 2) (in_base_of h + v / 4 % 16)
    (pick (eqb (v / 64) 3) (in_base_of h + h.actives + v / 4 % 16) no_queue))

-- the column of a packet's destination
unfoldable pub column_of : Head → Bool → ℕ → ℕ → ℕ
column_of h back a p = pick back a (h.actives + p)

-- by the k-th output of router r, the fifth being that to the unit, where it joins queue q
unfoldable pub routed_of : Head → List (List ℕ) → List ℕ → ℕ → ℕ → ℕ → Bool → ℕ → ℕ → ℕ
routed_of h routes joints r k q back a p =
    pick (ltb k 4) (across_of h routes (get_or joints (4 * r + k) 0) back a)
    (pick (eqb k 4) q (leaves_of (base_of h r) back (get_or (get_or routes r []) (column_of h back a p) no_side)))

-- by output m
unfoldable pub next_of : Head → List (List ℕ) → List ℕ → List ℕ → ℕ → ℕ → Bool → ℕ → ℕ → ℕ
next_of h routes joints homes m q back a p =
    pick (ltb m (destinations h)) (entered_of h routes (get_or homes m 0) back a)
    (routed_of h routes joints ((m - destinations h) / 6) ((m - destinations h) % 6) q back a p)

-- ---- what a caller tells
-- where output o leads to a unit, a packet joins queue q there: that of the side by which its walk came in
abbrev pub AtUnit : Plan → Output → Packet → ℕ → Type 0
AtUnit pl o x q =
    (r : ℕ) → o ≡ to_unit r → q ≡ number_or pl (some (Q r (came_in pl x.active x.passive r)))
