-- Tables of sets that say what a plan says: the destinations by side, the router beyond each side, and the
-- destinations that are one step away.
use Rattle.std.specs.Prelude.{◌≡◌, List, ℕ, ◌+◌, ◌*◌, ◌≤◌, ◌<◌, eqb, get_or}
use Rattle.plan.specs.declared.Joint.TheVariants.{Router}
use Rattle.plan.specs.Head.{destinations}
use Rattle.plan.specs.Plan.{Plan, R, no_side}
use Rattle.plan.specs.Rules.{leads_to, ports_of, port_or0}
use Rattle.plan.specs.Tables.{interface_at, joint_of_byte}
use Rattle.plan_facts.specs.Wired.{Wired}
use Rattle.plan_walks.specs.Drawn.{Sides}
use Rattle.sets.specs.Sets.{has}
use Rattle.graph_reach.specs.Reach.{side_set, beyond, Idle}

pub record Charted (pl : Plan) (by : List (List ℕ)) (next first : List ℕ) : Type 0 where
  pub sides : (r o d : ℕ) → r < R pl → o < 4 → d < destinations pl.head
      → has (side_set by next r o) d ≡ eqb (pl.route r d) o
  pub nexts : (r o n t : ℕ) → r < R pl → o < 4 → pl.joint r o ≡ Router n t → beyond by next r o ≡ n
  pub offs : (r o : ℕ) → r < R pl → o < 4 → ((n t : ℕ) → pl.joint r o ≡ Router n t → ⊥) → R pl ≤ beyond by next r o
  pub firsts : (r d : ℕ) → r < R pl → d < destinations pl.head
      → has (get_or first r 0) d ≡ leads_to (interface_at pl.head d) (pl.joint r (pl.route r d))
  pub idle : Idle by next (R pl) first

-- what the tables are made of: a plan's joints, the ports of its interfaces and the sets of destinations by side
pub record Charting (pl : Plan) (by : List (List ℕ)) (joints homes : List ℕ) : Type 0 where
  pub wired : Wired pl
  pub routers : R pl ≤ 16
  pub few : destinations pl.head ≤ 32
  pub joined : (r o : ℕ) → o < 4 → pl.joint r o ≡ joint_of_byte (get_or joints (4 * r + o) 0)
  pub ports : (d : ℕ) → d < destinations pl.head → get_or homes d 0 ≡ port_or0 (ports_of pl (interface_at pl.head d))
  pub sides : Sides pl by
  pub past : (r d : ℕ) → R pl ≤ r → pl.route r d ≡ no_side
