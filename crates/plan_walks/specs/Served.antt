-- 'A pair is **served** if the walk from the active's router to the passive arrives, and from each router on it the
-- walk back to the active arrives.'
use Rattle.std.specs.Prelude.{Bool, true, ℕ, ◌<◌}
use Rattle.basis.specs.Choice.{also}
use Rattle.basis.specs.Bounded.{all_below}
use Rattle.basis.specs.Walk.{Spot, on, end, lost}
use Rattle.plan.specs.Plan.{Plan, Port, active, passive, R}
use Rattle.plan.specs.Rules.{home}
use Rattle.plan_walks.specs.Walk.{Walk, walked, arrives}

pub record Served (pl : Plan) (a p : ℕ) : Type 0 where
  pub ahead : Walk pl (passive p) (home pl (active a))
  pub back : (k : ℕ) → k < ahead.size → Walk pl (active a) (ahead.stop k)

-- ---- the test
-- from where the walk stands, if it stands on a router, the walk back arrives
abbrev pub back_arrives : Plan → ℕ → Spot Port → Bool
back_arrives pl a (on x) = arrives pl (active a) x
back_arrives pl a end = true
back_arrives pl a lost = true

unfoldable pub backs_arrive : Plan → ℕ → ℕ → Port → Bool
backs_arrive pl a p from = all_below (R pl) (λ k. back_arrives pl a (walked pl (passive p) k from))

-- served by a walk that starts at a port
unfoldable pub served_from : Plan → ℕ → ℕ → Port → Bool
served_from pl a p from = also (arrives pl (passive p) from) (backs_arrive pl a p from)

abbrev pub served : Plan → ℕ → ℕ → Bool
served pl a p = served_from pl a p (home pl (active a))
