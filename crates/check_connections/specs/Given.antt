-- What the check is lent: a plan's tables, and bytes that are long enough; and the walk of a served pair in these
-- tables.
use Rattle.std.specs.Prelude.{◌≡◌, true, List, ℕ, ◌+◌, ◌≤◌, ◌<◌, length}
use Rattle.plan.specs.declared.Head.{Head}
use Rattle.plan.specs.declared.tables.PlanTables.{PlanTables}
use Rattle.plan.specs.Head.{InRange}
use Rattle.plan.specs.Plan.{active}
use Rattle.plan.specs.Rules.{port_of, home}
use Rattle.plan.specs.Tables.{table_plan}
use Rattle.plan_walks.specs.Served.{served}
use Rattle.plan_queues.specs.Feeds.{span}
use Rattle.plan_facts.specs.Wired.{Wired}
use Rattle.load_arrivals.specs.Pairs.{lengths_of}
use Rattle.bytes_steps.specs.Counts.{state_size}
use Rattle.next_queue.specs.Wiring.{Wiring}
use Rattle.check_places.specs.declared.Trip.{Trip}

pub record Given (h : Head) (routes : List (List ℕ)) (joints homes : List ℕ) (lengths : List (List ℕ))
    (b : List ℕ) : Type 0 where
  pub wiring : Wiring h routes joints homes
  pub sizes : lengths ≡ lengths_of (table_plan h routes joints)
  pub long : state_size h ≤ length b

-- the same of Load's tables as they lie together
abbrev pub GivenOf : Head → PlanTables → List ℕ → Type 0
GivenOf h t b = Given h t.routes t.joints t.homes t.lengths b

-- the walk of active a's and passive p's pair begins at port `from`, goes to the interface of column d and has `size`
-- routers
pub record Course (h : Head) (routes : List (List ℕ)) (joints : List ℕ) (a p from d size : ℕ) : Type 0 where
  pub range : InRange h
  pub wired : Wired (table_plan h routes joints)
  pub has_active : a < h.actives
  pub has_passive : p < h.passives
  pub serves : served (table_plan h routes joints) a p ≡ true
  pub begins : port_of from ≡ home (table_plan h routes joints) (active a)
  pub column : d ≡ h.actives + p
  pub routers : size ≡ span (table_plan h routes joints) a p

-- the same of a trip
abbrev pub CourseOf : Head → PlanTables → ℕ → ℕ → Trip → Type 0
CourseOf h t a p w = Course h t.routes t.joints a p w.home w.column w.length
