-- Refusal 6 as a test: the two rings, of links that walks go by and of crossings, by their numbers.
use Rattle.std.specs.Prelude.{Bool, false, ◌||◌, ℕ, ◌*◌, ◌/◌, ◌%◌, eqb}
use Rattle.basis.specs.Choice.{also}
use Rattle.basis.specs.Bounded.{any_below}
use Rattle.basis.specs.Walk.{Spot, on, end, lost}
use Rattle.basis.specs.Ring.{ring_test}
use Rattle.plan.specs.declared.Joint.{Joint}
use Rattle.plan.specs.declared.Joint.TheVariants.{Nothing, Router, Active, Passive}
use Rattle.plan.specs.Plan.{Plan, Port, Interface, active, passive, R, A, P, route_to}
use Rattle.plan.specs.Rules.{home, is_router_at}
use Rattle.plan_walks.specs.Walk.{walked}
use Rattle.plan_walks.specs.Served.{served}
use Rattle.plan_walks.specs.Steps.{stands_on}

-- the way to e from a port meets the router r
unfoldable pub way_meets : Plan → Interface → Port → ℕ → Bool
way_meets pl e from r = any_below (R pl) (λ k. stands_on r (walked pl e k from))

-- ---- set-ups and tear-downs
-- the walk of a served pair to passive p meets the router r
unfoldable pub walk_meets : Plan → ℕ → ℕ → Bool
walk_meets pl p r = any_below (A pl) (λ a. also (served pl a p) (way_meets pl (passive p) (home pl (active a)) r))

-- the walk of a served pair to passive p leaves the router r by side o
unfoldable pub walk_leaves : Plan → ℕ → ℕ → ℕ → Bool
walk_leaves pl p r o = also (eqb (route_to pl (passive p) r) o) (walk_meets pl p r)

-- the joint leads to the router r
abbrev pub is_router : ℕ → Joint → Bool
is_router r Nothing = false
is_router r (Router n t) = eqb n r
is_router r (Active n) = false
is_router r (Passive n) = false

-- links by number, side o of r is 4r + o: the walk of a served pair leaves by the link x, which leads to the router of
-- the link y, and by the link y
unfoldable pub trail_edge : Plan → ℕ → ℕ → Bool
trail_edge pl x y =
    also (is_router (y / 4) (pl.joint (x / 4) (x % 4)))
    (any_below (P pl) (λ p. also (walk_leaves pl p (x / 4) (x % 4)) (walk_leaves pl p (y / 4) (y % 4))))

-- ---- answers
-- from where a walk stands the way back to active a meets the router r
abbrev pub back_meets : Plan → ℕ → ℕ → Spot Port → Bool
back_meets pl a r (on x) = way_meets pl (active a) x r
back_meets pl a r end = false
back_meets pl a r lost = false

-- answers to active a leave the router r
unfoldable pub answered : Plan → ℕ → ℕ → Bool
answered pl a r =
    any_below (P pl)
    (λ p. also (served pl a p)
    (any_below (R pl) (λ k. back_meets pl a r (walked pl (passive p) k (home pl (active a))))))

-- answers to active a leave the router r by side o
unfoldable pub answer_leaves : Plan → ℕ → ℕ → ℕ → Bool
answer_leaves pl a r o = also (eqb (route_to pl (active a) r) o) (answered pl a r)

-- they come in by a joint: they leave the router there by its side
abbrev pub answer_comes : Plan → ℕ → Joint → Bool
answer_comes pl a Nothing = false
answer_comes pl a (Router n t) = answer_leaves pl a n t
answer_comes pl a (Active n) = false
answer_comes pl a (Passive n) = false

-- answers to one active come in to r by side i, leave it by o and the router n by j
unfoldable pub answers_pass : Plan → ℕ → ℕ → ℕ → ℕ → ℕ → Bool
answers_pass pl r i o n j =
    any_below (A pl)
    (λ a. also (answer_comes pl a (pl.joint r i)) (also (answer_leaves pl a r o) (answer_leaves pl a n j)))

-- crossings by number, K[i,o] of r is 16r + 4i + o: answers go by the crossing x and then by the crossing y
unfoldable pub hand_edge : Plan → ℕ → ℕ → Bool
hand_edge pl x y =
    also (is_router_at (y / 4) (pl.joint (x / 16) (x % 4)))
    (answers_pass pl (x / 16) (x / 4 % 4) (x % 4) (y / 16) (y % 4))

-- ---- some queues feed each other in a ring
unfoldable pub has_ring : Plan → Bool
has_ring pl = ring_test (4 * R pl) (trail_edge pl) || ring_test (16 * R pl) (hand_edge pl)
