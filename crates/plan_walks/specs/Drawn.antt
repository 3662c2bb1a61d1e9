-- A plan drawn as tables of sets of destinations: actives first, then passives, each a number below A + P.
use Rattle.std.specs.Prelude.{◌≡◌, true, ◌&&◌, List, [], ℕ, ◌+◌, ◌≤◌, ◌<◌, eqb, ltb, get_or}
use Rattle.sets.specs.Sets.{has}
use Rattle.plan.specs.Head.{destinations}
use Rattle.plan.specs.Plan.{Plan, Port, R, A, P}
use Rattle.plan.specs.Tables.{interface_at}
use Rattle.plan_walks.specs.Walk.{arrives}
use Rattle.plan_walks.specs.Served.{served}

-- by router and side: the destinations for which the router's table gives that side
abbrev pub Sides : Plan → List (List ℕ) → Type 0
Sides pl by =
    (r o d : ℕ) → o < 4
    → has (get_or (get_or by r []) o 0) d ≡ (ltb d (destinations pl.head) && eqb (pl.route r d) o)

-- by router: the destinations at which the walk from there arrives
pub record Arrivals (pl : Plan) (arrive : List ℕ) : Type 0 where
  pub there : (x : Port) (d : ℕ) → x.router < R pl → d < destinations pl.head
      → has (get_or arrive x.router 0) d ≡ arrives pl (interface_at pl.head d) x
  pub known : (r d : ℕ) → has (get_or arrive r 0) d ≡ true → (r < R pl) × (d < destinations pl.head)

-- by active: the destinations of the passives that it is served with
pub record Serves (pl : Plan) (serve : List ℕ) : Type 0 where
  pub pairs : (a p : ℕ) → a < A pl → p < P pl → has (get_or serve a 0) (A pl + p) ≡ served pl a p
  pub known : (a d : ℕ) → has (get_or serve a 0) d ≡ true → (a < A pl) × (A pl ≤ d) × (d < destinations pl.head)
