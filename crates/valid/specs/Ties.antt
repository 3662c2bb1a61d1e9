-- Refusal 7's test of the accepted connections, one after another: each is of a served pair, has all its entries, and
-- shares none of them with one before it.
use Rattle.std.specs.Prelude.{Bool, false, not, ◌||◌, ℕ, ◌+◌, ◌*◌, ◌/◌, ◌%◌, eqb}
use Rattle.basis.specs.Choice.{also}
use Rattle.basis.specs.Bounded.{any_below, all_below}
use Rattle.basis.specs.Walk.{Spot, on, end, lost}
use Rattle.packets.specs.declared.Entry.{Entry}
use Rattle.packets.specs.declared.Entry.TheVariants.{Free, Booked}
use Rattle.packets.specs.Counters.{slot_after}
use Rattle.plan.specs.Plan.{Plan, Port, active, passive, A, S, route_to}
use Rattle.plan.specs.Rules.{home}
use Rattle.plan_walks.specs.Walk.{walked}
use Rattle.plan_walks.specs.Served.{served}
use Rattle.plan_walks.specs.Steps.{stands_on}
use Rattle.plan_queues.specs.Feeds.{span}
use Rattle.rules.specs.Connections.{Connection, connection}
use Rattle.rules.specs.State.{State, has_connection}

-- ---- connections by number: 32 start slots for each of 16 passives of each active
abbrev pub start_room : ℕ
start_room = 32

abbrev pub passive_room : ℕ
passive_room = 16

unfoldable pub numbered : ℕ → Connection
numbered m = connection (m / (passive_room * start_room)) (m / start_room % passive_room) (m % start_room)

abbrev pub number_of : Connection → ℕ
number_of c = passive_room * start_room * c.active + start_room * c.passive + c.start.0

-- ---- the entry that a connection makes at its n-th router
-- where its walk stands then, the side by which it leaves a router, the slot
abbrev pub standing : Plan → Connection → ℕ → Spot Port
standing pl c n = walked pl (passive c.passive) n (home pl (active c.active))

abbrev pub side_of : Plan → Connection → ℕ → ℕ
side_of pl c r = route_to pl (passive c.passive) r

abbrev pub slot_of : Plan → Connection → ℕ → ℕ
slot_of pl c n = (slot_after c.start (record { 0 = n }) (S pl)).0

abbrev pub length_of : Plan → Connection → ℕ
length_of pl c = span pl c.active c.passive

-- it is the entry (r, o, t)
abbrev pub makes_at : Plan → Connection → ℕ → ℕ → ℕ → ℕ → Bool
makes_at pl c r o t n =
    also (stands_on r (standing pl c n)) (also (eqb o (side_of pl c r)) (eqb t (slot_of pl c n)))

-- one of its entries is (r, o, t)
unfoldable pub makes_test : Plan → Connection → ℕ → ℕ → ℕ → Bool
makes_test pl c r o t = any_below (length_of pl c) (makes_at pl c r o t)

-- an accepted connection of a number below m makes the entry (r, o, t)
unfoldable pub claimed_before : Plan → State → ℕ → ℕ → ℕ → ℕ → Bool
claimed_before pl s m r o t =
    any_below m (λ k. also (has_connection s (numbered k)) (makes_test pl (numbered k) r o t))

-- ---- the test
-- an entry is booked with a side
abbrev pub booked_by : ℕ → Entry → Bool
booked_by i Free = false
booked_by i (Booked j) = eqb j i

-- the entry at the n-th router is there, as connection m makes it, and none before m makes it
abbrev pub entry_tie : Plan → State → ℕ → ℕ → Spot Port → Bool
entry_tie pl s m n (on x) =
    also
    (booked_by x.side (s.table x.router (side_of pl (numbered m) x.router) (slot_of pl (numbered m) n)))
    (not (claimed_before pl s m x.router (side_of pl (numbered m) x.router) (slot_of pl (numbered m) n)))
entry_tie pl s m n end = false
entry_tie pl s m n lost = false

-- 'a mark for an unserved pair, one lacking any of its entries, or two that share an entry': of connection m
unfoldable pub tie_test : Plan → State → ℕ → Bool
tie_test pl s m =
    also (served pl (numbered m).active (numbered m).passive)
    (all_below (length_of pl (numbered m)) (λ n. entry_tie pl s m n (standing pl (numbered m) n)))

-- of a pair's connections, n the number of the pair; of all
unfoldable pub pair_ties : Plan → State → ℕ → Bool
pair_ties pl s n =
    all_below start_room
    (λ t. not (has_connection s (numbered (start_room * n + t))) || tie_test pl s (start_room * n + t))

unfoldable pub ties_test : Plan → State → Bool
ties_test pl s = all_below (passive_room * A pl) (pair_ties pl s)
