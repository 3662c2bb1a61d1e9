-- A router on a pair's walk: its sides in and out are sides of the plan, and the side in is the one that `came_in`
-- finds.
use mathlib.Core.Path.{◌≡◌}
use Prim.Native.Nat.{ℕ, ◌<◌}
use Rattle.basis.specs.Walk.{on}
use Rattle.plan.specs.Plan.{Plan, Port, active, passive, R, A, P, route_to}
use Rattle.plan.specs.Rules.{home}
use Rattle.plan_walks.specs.Walk.{walked}
use Rattle.plan_walks.specs.Served.{Served}
use Rattle.plan_queues.specs.Feeds.{Stands}
use Rattle.plan_facts.specs.Wired.{Wired}
use Rattle.plan_facts.proofs.Wires.{home_inside}
use Rattle.plan_journeys.proofs.Places.{meets_inside, exit_inside}
use Rattle.rules.specs.Execute.{came_in}

module _ {pl : Plan} (wired : Wired pl) (a p : ℕ) (ha : a < A pl) (hp : p < P pl) (s : Served pl a p) where
  -- a router on the walk is the plan's, and so is the side by which the walk comes in
  pub stands_inside : (n r i : ℕ) → Stands pl a p n r i → (r < R pl) × (i < 4)
  stands_inside n r i f =
      meets_inside wired (passive p) (home pl (active a)) s.ahead (home_inside (active a) wired ha)
      (record { router = r; side = i }) (record { steps = n; here = f })

  -- the side by which the walk leaves it is one of the four
  pub stands_exit : (n r i : ℕ) → Stands pl a p n r i → route_to pl (passive p) r < 4
  stands_exit n r i f = exit_inside wired (passive p) (home pl (active a)) s.ahead (record { router = r; side = i })
      (record { steps = n; here = f })

  -- the walk meets a router once
  pub stands_once : (n m : ℕ) (x y : Port) → walked pl (passive p) n (home pl (active a)) ≡ on x
      → walked pl (passive p) m (home pl (active a)) ≡ on y → x.router ≡ y.router → n ≡ m
  stands_once = Rattle.plan_journeys.proofs.CameIn.stands_once wired a p ha s

  -- the side by which the walk comes in to a router on it is the one that `came_in` finds
  pub came_in_lem : (n r i : ℕ) → Stands pl a p n r i → came_in pl a p r ≡ i
  came_in_lem = Rattle.plan_journeys.proofs.CameIn.came_in_lem wired a p ha s
