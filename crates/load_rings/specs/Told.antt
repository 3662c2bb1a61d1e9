-- The tables that the search for a ring is given, and that they tell what a plan says.
use Rattle.std.specs.Prelude.{◌≡◌, List, ℕ, ◌+◌, ◌*◌, ◌/◌, ◌<◌, get_or}
use Rattle.plan.specs.declared.Head.{Head}
use Rattle.plan.specs.Plan.{Plan, active, R, A}
use Rattle.plan.specs.Rules.{home}
use Rattle.plan.specs.Tables.{joint_of_byte}
use Rattle.plan_walks.specs.Drawn.{Sides, Arrivals, Serves}
use Rattle.plan_facts.specs.Wired.{Wired}

-- destinations by router and side, joints by port, the homes' ports by active, the destinations that are reached from
-- each router, the passives that each active is served with
pub record Told (pl : Plan) (h : Head) (by : List (List ℕ)) (joints homes arrive serve : List ℕ) : Type 0 where
  pub same : pl.head ≡ h
  pub wired : Wired pl
  pub sides : Sides pl by
  pub joined : (r s : ℕ) → r < R pl → s < 4 → pl.joint r s ≡ joint_of_byte (get_or joints (4 * r + s) 0)
  pub homed : (a : ℕ) → a < A pl → get_or homes a 0 / 4 ≡ (home pl (active a)).router
  pub arrivals : Arrivals pl arrive
  pub serves : Serves pl serve
