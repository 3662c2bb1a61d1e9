-- Which routers the walks of a plan meet.
use Rattle.std.specs.Prelude.{◌≡◌, true, List, [], ℕ, ◌/◌, ◌<◌, get_or}
use Rattle.basis.specs.Bounded.{any_below}
use Rattle.sets.specs.Sets.{has}
use Rattle.plan.specs.Head.{destinations}
use Rattle.plan.specs.Plan.{Plan, Port, R}
use Rattle.plan.specs.Tables.{interface_at}
use Rattle.plan_walks.specs.Walk.{walked, arrives, walk_size}
use Rattle.plan_walks.specs.Steps.{stands_on}

-- by router and destination: which routers the walk from there meets, as a set, plus 65536 times how many they are
pub record Tracks (pl : Plan) (up : List (List ℕ)) : Type 0 where
  pub met : (x : Port) (d r : ℕ) → x.router < R pl → d < destinations pl.head → r < 16
      → arrives pl (interface_at pl.head d) x ≡ true
      → has (get_or (get_or up x.router []) d 0) r
      ≡ any_below (R pl) (λ k. stands_on r (walked pl (interface_at pl.head d) k x))
  pub size : (x : Port) (d : ℕ) → x.router < R pl → d < destinations pl.head
      → arrives pl (interface_at pl.head d) x ≡ true
      → get_or (get_or up x.router []) d 0 / 65536 ≡ walk_size pl (interface_at pl.head d) x
