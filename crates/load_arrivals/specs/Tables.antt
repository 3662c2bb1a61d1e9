-- The tables that walks are swept with: the router beyond each side and the destinations one step away.
use Rattle.std.specs.Prelude.{◌≡◌, false, List, [], ℕ, ◌+◌, ◌*◌, ◌/◌, ◌%◌, ◌≤◌, ◌<◌, eqb, get_or, set, replicate}
use Rattle.basis.specs.Choice.{pick}
use Rattle.basis.specs.Fold.{up_to, fill}
use Rattle.sets.specs.Sets.{has, single, both, either, less, below}
use Rattle.plan.specs.declared.Head.{Head}
use Rattle.plan.specs.declared.tables.PlanTables.{PlanTables}
use Rattle.plan.specs.Head.{destinations, Counts}

-- the router that a joint's byte leads to, or 16
unfoldable pub next_of : ℕ → ℕ
next_of v = pick (eqb (v / 64) 1) (v / 4 % 16) 16

unfoldable pub nexts_of : List ℕ → ℕ → List ℕ
nexts_of joints routers = up_to (fill (λ k. next_of (get_or joints k 0))) (4 * routers) (replicate 64 16)

-- every destination's port is one of 64
abbrev pub PortsIn : List ℕ → ℕ → Type 0
PortsIn homes n = (d : ℕ) → d < n → get_or homes d 0 < 64

-- walks arrive only from routers below n
abbrev pub OnlyBelow : ℕ → List ℕ → Type 0
OnlyBelow n arrive = (r d : ℕ) → n ≤ r → has (get_or arrive r 0) d ≡ false

-- tables of a plan in range that walks can be swept with: each destination's port is one, and no router past the
-- plan's has a destination
abbrev pub Sweepable : Head → PlanTables → Type 0
Sweepable h t =
    Counts h × PortsIn t.homes (h.actives + h.passives)
    × ((r o d : ℕ) → h.routers ≤ r → o < 4 → has (get_or (get_or t.by r []) o 0) d ≡ false)

-- the set of port k's router, with d where the router's side for d is that port's
unfoldable pub first_of : List (List ℕ) → ℕ → ℕ → ℕ → ℕ
first_of by t k d = either t (both (get_or (get_or by (k / 4) []) (k % 4) 0) (single d))

unfoldable pub first_step : List (List ℕ) → List ℕ → ℕ → List ℕ → List ℕ
first_step by homes d t = set t (get_or homes d 0 / 4) (first_of by (get_or t (get_or homes d 0 / 4) 0)
    (get_or homes d 0) d)

-- by router: the destinations one step away
unfoldable pub firsts_of : List (List ℕ) → List ℕ → ℕ → List ℕ
firsts_of by homes n = up_to (first_step by homes) n (replicate 32 0)

unfoldable pub near_of : ℕ → ℕ → ℕ
near_of s d = pick (has s d) 1 0

unfoldable pub near_step : List ℕ → List ℕ → ℕ → ℕ → List (List ℕ) → List (List ℕ)
near_step t homes actives p z =
    set z (get_or homes (actives + p) 0 / 4)
    (set (get_or z (get_or homes (actives + p) 0 / 4) []) p (near_of (get_or t (get_or homes (actives + p) 0 / 4) 0)
    (actives + p)))

-- by router and passive: 1 where it is one step away
unfoldable pub nears_of : List ℕ → List ℕ → ℕ → ℕ → List (List ℕ)
nears_of t homes actives passives = up_to (near_step t homes actives) passives (replicate 17 (replicate 16 0))

-- the destinations that are passives
unfoldable pub far_of : Head → ℕ
far_of h = less (below (destinations h)) (below h.actives)
