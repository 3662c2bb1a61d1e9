-- 'A *walk* leaves a router by the side given for a destination, and so on. It arrives if it reaches that interface
-- with no router met twice.'
use Rattle.std.specs.Prelude.{Bool, ℕ}
use Rattle.basis.specs.Choice.{pick}
use Rattle.basis.specs.Walk.{Spot, on, end, lost, spot, is_end, on_count, Way}
use Rattle.plan.specs.declared.Joint.{Joint}
use Rattle.plan.specs.declared.Joint.TheVariants.{Nothing, Router, Active, Passive}
use Rattle.plan.specs.Plan.{Plan, Port, Interface, R, route_to}
use Rattle.plan.specs.Rules.{leads_to}

-- the router that a joint leads to, entered by its partner's side
abbrev pub into : Joint → Spot Port
into Nothing = lost
into (Router n t) = on (record { router = n; side = t })
into (Active n) = lost
into (Passive n) = lost

-- a walk to e that leaves by a joint: it is there, on the next router, or nowhere
abbrev pub through : Interface → Joint → Spot Port
through e j = pick (leads_to e j) end (into j)

-- one router of a walk to e: it leaves by the side given for e
unfoldable pub onward : Plan → Interface → Port → Spot Port
onward pl e x = through e (pl.joint x.router (route_to pl e x.router))

-- the router at a stop of a walk
abbrev pub router_of : Port → ℕ
router_of x = x.router

-- A walk to e that arrives, as what it is: its routers in order, each with the side it is entered by, no router met
-- twice
abbrev pub Walk : Plan → Interface → Port → Type 0
Walk pl e from = Way router_of (onward pl e) from

-- where the walk to e from a router stands after k routers
abbrev pub walked : Plan → Interface → ℕ → Port → Spot Port
walked pl e k from = spot (onward pl e) k (on from)

-- the test: after as many steps as there are routers the walk is there
unfoldable pub arrives : Plan → Interface → Port → Bool
arrives pl e from = is_end (walked pl e (R pl) from)

-- the number of routers on a walk that arrives
unfoldable pub walk_size : Plan → Interface → Port → ℕ
walk_size pl e from = on_count (onward pl e) (R pl) (on from)
