-- What those who move packets need of Load's tables: a plan in range and wired, and the ports of its interfaces.
use Rattle.std.specs.Prelude.{◌≡◌, List, ℕ, ◌<◌, get_or}
use Rattle.plan.specs.declared.Head.{Head}
use Rattle.plan.specs.declared.tables.PlanTables.{PlanTables}
use Rattle.plan.specs.Head.{InRange, destinations}
use Rattle.plan.specs.Rules.{ports_of, port_or0}
use Rattle.plan.specs.Tables.{table_plan, interface_at}
use Rattle.plan_facts.specs.Wired.{Wired}

pub record Wiring (h : Head) (routes : List (List ℕ)) (joints homes : List ℕ) : Type 0 where
  pub range : InRange h
  pub wired : Wired (table_plan h routes joints)
  pub ports : (d : ℕ) → d < destinations h
      → get_or homes d 0 ≡ port_or0 (ports_of (table_plan h routes joints) (interface_at h d))

-- the same of Load's tables
abbrev pub WiringOf : Head → PlanTables → Type 0
WiringOf h t = Wiring h t.routes t.joints t.homes
