-- 'Queue X *feeds* Y if a packet of a served pair can go next from X to Y: set-ups and tear-downs along the walk,
-- ACKs back from the passive, NACKs back from Q of each router on it or from the passive.' Two definitions say it:
-- where a packet may be, and where it goes next.
use Rattle.std.specs.Prelude.{◌≡◌, ◌⊎◌, Bool, true, ℕ, suc, ◌+◌, ◌≤◌, ◌<◌}
use Rattle.std.proofs.Math.Option.{Option, none, some}
use Rattle.basis.specs.Choice.{pick}
use Rattle.basis.specs.Walk.{on}
use Rattle.packets.specs.declared.Kind.{Kind}
use Rattle.packets.specs.declared.Kind.TheVariants.{Setup, Tdown, Ack, Nack}
use Rattle.basis.specs.Ring.{Ring}
use Rattle.plan.specs.declared.Joint.{Joint}
use Rattle.plan.specs.declared.Joint.TheVariants.{Nothing, Router, Active, Passive}
use Rattle.plan.specs.Plan.{Plan, Port, Interface, active, passive, A, P, route_to}
use Rattle.plan.specs.Rules.{home}
use Rattle.plan_walks.specs.Walk.{onward, walked, walk_size}
use Rattle.plan_walks.specs.Steps.{index_on, entered_by}
use Rattle.plan_walks.specs.Served.{Served}
pub use Rattle.plan_queues.specs.Queue.{Heading, ahead, back}
use Rattle.plan_queues.specs.Queue.{Queue, active_out, active_in, passive_in, passive_out, U, Q, F, K}
use Rattle.plan_queues.specs.Role.{Role, sending, receiving, handling, passing, role}

abbrev pub heading_of : Kind → Heading
heading_of Setup = ahead
heading_of Tdown = ahead
heading_of Ack = back
heading_of Nack = back

abbrev pub destination : Heading → ℕ → ℕ → Interface
destination ahead a p = passive p
destination back a p = active a

-- ---- the next queue of a packet
-- the queue that a packet joins as it enters a router: U for the unit, or K across to the side that the table gives
abbrev pub enters : Plan → Heading → ℕ → ℕ → Port → Queue
enters pl ahead a p x = U x.router x.side
enters pl back a p x = K x.router x.side (route_to pl (active a) x.router)

-- the queue that a packet joins beyond a router's side
abbrev pub across : Plan → Heading → ℕ → ℕ → Joint → Option Queue
across pl h a p Nothing = none
across pl h a p (Router n t) = some (enters pl h a p (record { router = n; side = t }))
across pl h a p (Active n) = some (active_in n)
across pl h a p (Passive n) = some (passive_in n)

-- what a packet leaves by: an interface, a router's side, the way from a router to its unit, or back
pub data Output : Type 0 where
  of_active : ℕ → Output
  of_passive : ℕ → Output
  of_side : ℕ → ℕ → Output
  to_unit : ℕ → Output
  from_unit : ℕ → Output

-- the side by which the walk of a pair comes in to router r; a packet at a unit is on its walk
abbrev pub came_by : Plan → ℕ → ℕ → Option ℕ → ℕ
came_by pl a p x = entered_by pl (passive p) (home pl (active a)) x

unfoldable pub came_in : Plan → ℕ → ℕ → ℕ → ℕ
came_in pl a p r = came_by pl a p (index_on pl (passive p) (home pl (active a)) r)

-- the queue that a packet of the pair (a, p) joins as it leaves by an output; on the way to the unit that of the side
-- by which the pair's walk came in
abbrev pub beyond : Plan → Heading → ℕ → ℕ → Output → Option Queue
beyond pl h a p (of_active x) = some (enters pl h a p (home pl (active x)))
beyond pl h a p (of_passive x) = some (enters pl h a p (home pl (passive x)))
beyond pl h a p (of_side r o) = across pl h a p (pl.joint r o)
beyond pl h a p (to_unit r) = some (Q r (came_in pl a p r))
beyond pl h a p (from_unit r) = some (F h r (route_to pl (destination h a p) r))

-- the output that a queue's packets leave by; from an in-queue they go nowhere
abbrev pub output_of : Queue → Option Output
output_of (active_out x) = some (of_active x)
output_of (passive_out x) = some (of_passive x)
output_of (U r i) = some (to_unit r)
output_of (Q r i) = some (from_unit r)
output_of (F h r o) = some (of_side r o)
output_of (K r i o) = some (of_side r o)
output_of (active_in x) = none
output_of (passive_in x) = none

abbrev pub leaving : Plan → Heading → ℕ → ℕ → Option Output → Option Queue
leaving pl h a p none = none
leaving pl h a p (some o) = beyond pl h a p o

-- the next queue of a packet in a queue
unfoldable pub next : Plan → Heading → ℕ → ℕ → Queue → Option Queue
next pl h a p q = leaving pl h a p (output_of q)

-- ---- where a packet of the pair may be, and with which hub
-- a place: in a queue, or for the handled head of Q[i] at the unit of a router
pub data Place : Type 0 where
  in_queue : Queue → Place
  handled_at : ℕ → ℕ → Place

-- the walk to e from a port meets the router y .router, coming in by y.side
pub record Meets (pl : Plan) (e : Interface) (from y : Port) : Type 0 where
  pub steps : ℕ
  pub here : walked pl e steps from ≡ on y

-- the n-th router of the pair's walk is r, entered by side i
abbrev pub Stands : Plan → ℕ → ℕ → ℕ → ℕ → ℕ → Type 0
Stands pl a p n r i = walked pl (passive p) n (home pl (active a)) ≡ on (record { router = r; side = i })

-- the walk's length
abbrev pub span : Plan → ℕ → ℕ → ℕ
span pl a p = walk_size pl (passive p) (home pl (active a))

-- a packet on the way to the passive has n routers behind it
unfoldable pub Ahead : Plan → ℕ → ℕ → Place → ℕ → Type 0
Ahead pl a p (in_queue (active_out x)) n = (x ≡ a) × (n ≡ 0)
Ahead pl a p (in_queue (U r i)) n = Stands pl a p n r i
Ahead pl a p (in_queue (Q r i)) n = Stands pl a p n r i
Ahead pl a p (handled_at r i) n = (m : ℕ) × Stands pl a p m r i × (n ≡ suc m)
Ahead pl a p (in_queue (F ahead r o)) n =
    (i m : ℕ) × Stands pl a p m r i × (n ≡ suc m) × (o ≡ route_to pl (passive p) r)
Ahead pl a p (in_queue (F back r o)) n = ⊥
Ahead pl a p (in_queue (passive_in x)) n = (x ≡ p) × (n ≡ span pl a p)
Ahead pl a p (in_queue (active_in x)) n = ⊥
Ahead pl a p (in_queue (passive_out x)) n = ⊥
Ahead pl a p (in_queue (K r i o)) n = ⊥

-- an answer comes in by y: back from the passive, n the walk's length, or from the unit of the n-th router x by the
-- next router z
abbrev pub Returns : Plan → ℕ → ℕ → ℕ → Port → Type 0
Returns pl a p n y =
    (Meets pl (active a) (home pl (passive p)) y × (n ≡ span pl a p))
    ⊎ ((x z : Port) × (walked pl (passive p) n (home pl (active a)) ≡ on x) × (onward pl (active a) x ≡ on z)
    × Meets pl (active a) z y)

-- an answer that set out from the passive, n the walk's length, or as a NACK from the unit of the n-th router
unfoldable pub Back : Plan → ℕ → ℕ → Place → ℕ → Type 0
Back pl a p (in_queue (passive_out x)) n = (x ≡ p) × (n ≡ span pl a p)
Back pl a p (handled_at r i) n = Stands pl a p n r i
Back pl a p (in_queue (F ahead r o)) n = ⊥
Back pl a p (in_queue (F back r o)) n = (i : ℕ) × Stands pl a p n r i × (o ≡ route_to pl (active a) r)
Back pl a p (in_queue (K r i o)) n = Returns pl a p n (record { router = r; side = i }) × (o ≡ route_to pl (active a) r)
Back pl a p (in_queue (active_in x)) n = (x ≡ a) × (n ≤ span pl a p)
Back pl a p (in_queue (Q r i)) n = ⊥
Back pl a p (in_queue (U r i)) n = ⊥
Back pl a p (in_queue (active_out x)) n = ⊥
Back pl a p (in_queue (passive_in x)) n = ⊥

-- 'a hub that fits that place (SETUP: routers booked on the way there; TDOWN: 1 to the routers still ahead; ACK: the
-- walk's length;
-- NACK: that length if it can come from the passive, or the index, from 0, of a router whose NACK passes there)'
abbrev pub Fits : Plan → Kind → ℕ → ℕ → ℕ → Place → Type 0
Fits pl Setup a p hub x = Ahead pl a p x hub
Fits pl Tdown a p hub x = (n : ℕ) × Ahead pl a p x n × (1 ≤ hub) × (n + hub ≤ span pl a p)
Fits pl Ack a p hub x = Back pl a p x hub × (hub ≡ span pl a p)
Fits pl Nack a p hub x = Back pl a p x hub

-- the place of a queue's head: at a unit it may have been handled
abbrev pub head_place_as : Role → Bool → Queue → Place
head_place_as sending done q = in_queue q
head_place_as receiving done q = in_queue q
head_place_as (handling r i) done q = pick done (handled_at r i) (in_queue q)
head_place_as passing done q = in_queue q

abbrev pub head_place : Bool → Queue → Place
head_place done q = head_place_as (role q) done q

-- the place of a packet that leaves a queue: a unit sends on what it has handled
abbrev pub leaves_from : Queue → Place
leaves_from q = head_place true q

-- ---- feeding, and the ring that a loadable plan has not
pub record Feeds (pl : Plan) (x y : Queue) : Type 0 where
  pub active : ℕ
  pub passive : ℕ
  pub has_active : active < A pl
  pub has_passive : passive < P pl
  pub serves : Served pl active passive
  pub kind : Kind
  pub hub : ℕ
  pub here : Fits pl kind active passive hub (leaves_from x)
  pub goes : next pl (heading_of kind) active passive x ≡ some y

-- a closed chain of feeding queues
abbrev pub FeedRing : Plan → Type 0
FeedRing pl = Ring (Feeds pl)
