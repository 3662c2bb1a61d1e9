-- May a packet stand in a queue? As the code looks it up: for each kind of place a test over the tables.
use Rattle.std.specs.Prelude.{◌≡◌, ◌⊎◌, Bool, true, false, ◌||◌, List, [], ℕ, ◌+◌, ◌*◌, ◌-◌, ◌/◌, ◌%◌, ◌≤◌, ◌<◌, eqb}
use Rattle.std.specs.Prelude.{ltb, leb, get_or}
use Rattle.basis.specs.Choice.{pick, also}
use Rattle.basis.specs.Fold.{up_to}
use Rattle.sets.specs.Sets.{has}
use Rattle.packets.specs.declared.Kind.{Kind}
use Rattle.packets.specs.declared.Kind.TheVariants.{Setup, Tdown, Ack, Nack}
use Rattle.packets.specs.declared.Packet.{Packet}
use Rattle.plan.specs.Plan.{no_side}
use Rattle.check_places.specs.declared.Trip.{Trip}
use Rattle.check_places.specs.declared.Standing.{Standing}

-- ---- a pair's walk
-- the routers that the walk from router r to the interface of column d meets, and 65536 times how many they are
abbrev pub track_at : List (List ℕ) → ℕ → ℕ → ℕ
track_at up r d = get_or (get_or up r []) d 0

unfoldable pub trip_of : ℕ → List ℕ → List (List ℕ) → Packet → Trip
trip_of actives homes lengths x =
    record {
      home = get_or homes x.active 0;
      column = actives + x.passive;
      length = get_or (get_or lengths x.active []) x.passive 0;
    }

-- the routers that the pair's walk meets
abbrev pub track_of : List (List ℕ) → Trip → ℕ
track_of up t = track_at up (t.home / 4) t.column

unfoldable pub standing_of : List (List ℕ) → Trip → ℕ → Standing
standing_of up t r =
    pick (has (track_of up t) r)
    (record { behind = t.length - track_at up r t.column / 65536; ahead = track_at up r t.column / 65536 })
    (record { behind = 0; ahead = 0 })

-- the router that the walk goes to from router r
unfoldable pub onward_of : List (List ℕ) → List ℕ → ℕ → ℕ → ℕ
onward_of routes joints d r = get_or joints (4 * r + get_or (get_or routes r []) d 0) 0 / 4 % 16

-- the n-th router of the walk
unfoldable pub nth_of : List (List ℕ) → List ℕ → Trip → ℕ → ℕ
nth_of routes joints t n = up_to (λ i. onward_of routes joints t.column) n (t.home / 4)

-- ---- at a unit
-- a tear-down's hub: 1 to the routers still ahead
unfoldable pub frees_up_to : ℕ → ℕ → Bool
frees_up_to hub ahead = also (ltb 0 hub) (leb hub ahead)

-- in Q, not handled
abbrev pub coming_as : Standing → ℕ → Kind → Bool
coming_as v hub Setup = eqb hub v.behind
coming_as v hub Tdown = frees_up_to hub v.ahead
coming_as v hub Ack = false
coming_as v hub Nack = false

unfoldable pub coming : Standing → Kind → ℕ → Bool
coming v k hub = pick (eqb v.ahead 0) false (coming_as v hub k)

-- handled: by the rule of its kind a set-up has one router more behind it, a tear-down one less ahead
abbrev pub leaving_as : Standing → ℕ → Kind → Bool
leaving_as v hub Setup = eqb hub (v.behind + 1)
leaving_as v hub Tdown = frees_up_to hub (v.ahead - 1)
leaving_as v hub Ack = false
leaving_as v hub Nack = eqb hub v.behind

unfoldable pub leaving : Standing → Kind → ℕ → Bool
leaving v k hub = pick (eqb v.ahead 0) false (leaving_as v hub k)

-- ---- by which side a walk comes in
-- the joint of a port leads to a router of a track, and there back for column d
unfoldable pub next_by : List ℕ → List (List ℕ) → ℕ → ℕ → ℕ → Bool
next_by joints by track d port =
    also (eqb (get_or joints port 0 / 64) 1)
    (also (has track (get_or joints port 0 / 4 % 16))
    (has (get_or (get_or by (get_or joints port 0 / 4 % 16) []) (get_or joints port 0 % 4) 0) d))

-- a walk from a port comes in by another: it begins there, or it comes from a router of its track
unfoldable pub comes_by : List ℕ → List (List ℕ) → List (List ℕ) → ℕ → ℕ → ℕ → Bool
comes_by joints by up from d port = eqb from port || next_by joints by (track_at up (from / 4) d) d port

-- a walk from a port comes in to router r by a side, or by none: 7
abbrev pub SideIn : List ℕ → List (List ℕ) → List (List ℕ) → ℕ → ℕ → ℕ → ℕ → Type 0
SideIn joints by up from d r i =
    ((i < 4) × (comes_by joints by up from d (4 * r + i) ≡ true))
    ⊎ ((i ≡ no_side) × ((k : ℕ) → k < 4 → comes_by joints by up from d (4 * r + k) ≡ false))

-- U: from a side to the unit
unfoldable pub side_by : List ℕ → List (List ℕ) → List (List ℕ) → Trip → ℕ → Kind → ℕ → Bool
side_by joints by up t port k hub =
    also (coming (standing_of up t (port / 4)) k hub) (comes_by joints by up t.home t.column port)

-- Q: at the unit, from a side; handled or not
unfoldable pub unit_by : List ℕ → List (List ℕ) → List (List ℕ) → Trip → ℕ → Bool → Kind → ℕ → Bool
unit_by joints by up t port done k hub =
    also (pick done (leaving (standing_of up t (port / 4)) k hub) (coming (standing_of up t (port / 4)) k hub))
    (comes_by joints by up t.home t.column port)

-- F: from the unit to a side
-- an answer
abbrev pub answers : Kind → Bool
answers Setup = false
answers Tdown = false
answers Ack = true
answers Nack = true

abbrev pub column_of : Trip → ℕ → Kind → ℕ
column_of t a Setup = t.column
column_of t a Tdown = t.column
column_of t a Ack = a
column_of t a Nack = a

unfoldable pub out_by : List (List ℕ) → List (List ℕ) → Trip → ℕ → ℕ → ℕ → Kind → ℕ → Bool
out_by routes up t r o a k hub =
    also (eqb (get_or (get_or routes r []) (column_of t a k) 0) o) (leaving (standing_of up t r) k hub)

-- ---- K: an answer crosses
-- a NACK of the n-th router
unfoldable pub nack_by : List (List ℕ) → List ℕ → List (List ℕ) → List (List ℕ) → Trip → ℕ → ℕ → ℕ → Bool
nack_by routes joints by up t a port hub =
    also (ltb hub t.length) (next_by joints by (track_at up (nth_of routes joints t hub) a) a port)

-- with the walk's length it comes from the passive, and else a NACK from a router
abbrev pub answer_as : ℕ → ℕ → Bool → Bool → Kind → Bool
answer_as length hub far near Setup = false
answer_as length hub far near Tdown = false
answer_as length hub far near Ack = also (eqb hub length) far
answer_as length hub far near Nack = pick (eqb hub length) far near

unfoldable pub answer_by : List (List ℕ) → List ℕ → List ℕ → List (List ℕ) → List (List ℕ) → Trip → ℕ → ℕ → Kind → ℕ
    → Bool
answer_by routes joints homes by up t a port k hub =
    answer_as t.length hub (comes_by joints by up (get_or homes t.column 0) a port)
    (nack_by routes joints by up t a port hub) k

unfoldable pub cross_by : List (List ℕ) → List ℕ → List ℕ → List (List ℕ) → List (List ℕ) → Trip → ℕ → ℕ → ℕ → Kind → ℕ
    → Bool
cross_by routes joints homes by up t a port o k hub =
    also (eqb (get_or (get_or routes (port / 4) []) a 0) o) (answer_by routes joints homes by up t a port k hub)

-- ---- what the tables must have, so that every index is inside them
pub record Marked (up : List (List ℕ)) (t : Trip) : Type 0 where
  pub home : t.home < 64
  pub column : t.column < 32
  pub long : t.length ≤ 16
  -- from a router on the walk it has no more routers than in all
  pub most : (r : ℕ) → r < 16 → has (track_of up t) r ≡ true → track_at up r t.column / 65536 ≤ t.length

-- each router of the walk gives a side
abbrev pub Led : List (List ℕ) → List ℕ → Trip → Type 0
Led routes joints t =
    (n : ℕ) → n < t.length → get_or (get_or routes (nth_of routes joints t n) []) t.column 0 < 4

-- ---- interfaces' queues
unfoldable pub active_out_as : ℕ → ℕ → Kind → Bool
active_out_as length hub Setup = eqb hub 0
active_out_as length hub Tdown = frees_up_to hub length
active_out_as length hub Ack = false
active_out_as length hub Nack = false

unfoldable pub passive_out_as : ℕ → ℕ → Kind → Bool
passive_out_as length hub Setup = false
passive_out_as length hub Tdown = false
passive_out_as length hub Ack = eqb hub length
passive_out_as length hub Nack = eqb hub length

unfoldable pub active_in_as : ℕ → ℕ → Kind → Bool
active_in_as length hub Setup = false
active_in_as length hub Tdown = false
active_in_as length hub Ack = eqb hub length
active_in_as length hub Nack = leb hub length

unfoldable pub passive_in_as : ℕ → ℕ → Kind → Bool
passive_in_as length hub Setup = eqb hub length
passive_in_as length hub Tdown = false
passive_in_as length hub Ack = false
passive_in_as length hub Nack = false

-- the n-th out-queue, actives first
unfoldable pub sent_by : ℕ → ℕ → ℕ → Packet → Bool
sent_by actives length n x =
    pick (ltb n actives) (also (eqb n x.active) (active_out_as length x.hub.0 x.kind))
    (also (eqb (n - actives) x.passive) (passive_out_as length x.hub.0 x.kind))

-- the n-th in-queue, actives first
unfoldable pub received_by : ℕ → ℕ → ℕ → Packet → Bool
received_by actives length n x =
    pick (ltb n actives) (also (eqb n x.active) (active_in_as length x.hub.0 x.kind))
    (also (eqb (n - actives) x.passive) (passive_in_as length x.hub.0 x.kind))

-- ---- all queues by number
module _ (routes : List (List ℕ)) (joints homes : List ℕ) (by up : List (List ℕ)) (t : Trip) (x : Packet) where
  -- the sender of rank j at side o of router r
  unfoldable pub sender_by : ℕ → ℕ → ℕ → Bool
  sender_by r o j =
      pick (eqb j 0) (pick (answers x.kind) false (out_by routes up t r o x.active x.kind x.hub.0))
      (pick (eqb j 1) (pick (answers x.kind) (out_by routes up t r o x.active x.kind x.hub.0) false)
      (cross_by routes joints homes by up t x.active (4 * r + pick (ltb (j - 2) o) (j - 2) (j - 1)) o x.kind x.hub.0))

  -- the k-th queue of router r
  unfoldable pub router_by : ℕ → ℕ → Bool → Bool
  router_by r k done =
      pick (ltb k 4) (side_by joints by up t (4 * r + k) x.kind x.hub.0)
      (pick (ltb k 8) (unit_by joints by up t (4 * r + (k - 4)) done x.kind x.hub.0)
      (sender_by r ((k - 8) / 5) ((k - 8) % 5)))

  -- the n-th queue: out-queues, then inner ones of the routers, then in-queues
  unfoldable pub fits_by : ℕ → ℕ → ℕ → ℕ → Bool → Bool
  fits_by actives outs inner n done =
      pick (ltb n outs) (sent_by actives t.length n x)
      (pick (ltb (n - outs) inner) (router_by ((n - outs) / 28) ((n - outs) % 28) done)
      (received_by actives t.length (n - outs - inner) x))
