-- How long a pair's walk is, from the plan's bytes alone.
use Rattle.std.specs.Prelude.{List, ℕ, ltb}
use Rattle.std.specs.Prelude.{Result, Ok, Err}
use Rattle.kinds.specs.declared.Refusal.{Refusal}
use Rattle.plan.specs.declared.Head.{Head}
use Rattle.basis.specs.Choice.{pick}
use Rattle.plan.specs.Plan.{plan_of}
use Rattle.load_arrivals.specs.Pairs.{pair_walk}
use Rattle.load.specs.Load.{load_of}

-- by Load's answer: 0 where the plan does not load or a number is out of range
abbrev pub walk_by : List ℕ → ℕ → ℕ → Result Head Refusal → ℕ
walk_by b a p (Ok h) = pick (ltb a h.actives) (pick (ltb p h.passives) (pair_walk (plan_of b) a p) 0) 0
walk_by b a p (Err w) = 0

unfoldable pub walk_of : List ℕ → ℕ → ℕ → ℕ
walk_of b a p = walk_by b a p (load_of b)
