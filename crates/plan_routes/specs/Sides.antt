-- The destinations by router and side: for each router and each destination the plan gives one side, or none.
use Rattle.std.specs.Prelude.{List, ℕ, eqb, replicate}
use Rattle.basis.specs.Fold.{up_to, fill}
use Rattle.sets.specs.Sets.{those}
use Rattle.plan.specs.Head.{destinations}
use Rattle.plan.specs.Plan.{Plan, R}

-- of n destinations, the set of those whose side is o
abbrev pub side_set : (ℕ → ℕ) → ℕ → ℕ → ℕ
side_set side n o = those n (λ d. eqb (side d) o)

-- the sets of one router, by side
unfoldable pub sides_in : (ℕ → ℕ) → ℕ → List ℕ
sides_in side n = up_to (fill (side_set side n)) 4 (replicate 4 0)

-- the sets of all routers, by router and side; empty ones at the routers that the plan does not have
unfoldable pub sides_of : Plan → List (List ℕ)
sides_of pl =
    up_to (fill (λ r. sides_in (pl.route r) (destinations pl.head))) (R pl) (replicate 16 (replicate 4 0))
