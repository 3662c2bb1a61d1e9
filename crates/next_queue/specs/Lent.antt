-- The tables that Load lends: those of one plan, which is in range and wired.
use Rattle.std.specs.Prelude.{◌≡◌, false, List, [], ℕ, ◌+◌, ◌≤◌, ◌<◌, get_or}
use Rattle.sets.specs.Sets.{has}
use Rattle.plan.specs.declared.Head.{Head}
use Rattle.plan.specs.declared.tables.PlanTables.{PlanTables}
use Rattle.plan.specs.Head.{InRange}
use Rattle.plan.specs.Tables.{table_plan}
use Rattle.load_arrivals.specs.Tables.{PortsIn}
use Rattle.load_arrivals.specs.Pairs.{Tables, lengths_of}

pub record Lent (h : Head) (routes : List (List ℕ)) (joints homes : List ℕ) (lengths by : List (List ℕ)) : Type 0 where
  pub range : InRange h
  -- routes, joints, homes and the sets by side are one plan's
  pub tables : Tables h routes joints homes by
  -- the length of each served pair's walk, else 0
  pub sizes : lengths ≡ lengths_of (table_plan h routes joints)
  -- every interface's port is one of 64, and routers that are not there have no sets
  pub ports : PortsIn homes (h.actives + h.passives)
  pub past : (r o d : ℕ) → h.routers ≤ r → o < 4 → has (get_or (get_or by r []) o 0) d ≡ false

-- the same of Load's tables as they lie together
abbrev pub LentOf : Head → PlanTables → Type 0
LentOf h t = Lent h t.routes t.joints t.homes t.lengths t.by
