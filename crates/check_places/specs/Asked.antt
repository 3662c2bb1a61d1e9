-- What the place test is asked with: the tables that Load lends, the routers that each walk meets, the plan's counts of
-- queues, and a served pair.
use Rattle.std.specs.Prelude.{◌≡◌, true, List, ℕ, ◌+◌, ◌*◌, ◌<◌}
use Rattle.plan.specs.declared.Head.{Head}
use Rattle.plan.specs.declared.tables.PlanTables.{PlanTables}
use Rattle.plan.specs.Plan.{A, P}
use Rattle.plan.specs.Tables.{table_plan}
use Rattle.plan_walks.specs.Served.{served}
use Rattle.load_arrivals.specs.Tracks.{Tracks}
use Rattle.next_queue.specs.Lent.{Lent}

pub record Asked (h : Head) (actives outs inner : ℕ) (routes : List (List ℕ)) (joints homes : List ℕ)
    (lengths by up : List (List ℕ)) (a p : ℕ) : Type 0 where
  pub lent : Lent h routes joints homes lengths by
  pub tracks : Tracks (table_plan h routes joints) up
  -- how many actives, out-queues and routers' queues the plan has
  pub counts : (actives ≡ h.actives) × (outs ≡ h.actives + h.passives) × (inner ≡ 28 * h.routers)
  -- the pair, which is served
  pub active : a < A (table_plan h routes joints)
  pub passive : p < P (table_plan h routes joints)
  pub serves : served (table_plan h routes joints) a p ≡ true

-- the same of Load's tables as they lie together
abbrev pub AskedOf : Head → ℕ → ℕ → ℕ → PlanTables → List (List ℕ) → ℕ → ℕ → Type 0
AskedOf h actives outs inner t up a p =
    Asked h actives outs inner t.routes t.joints t.homes t.lengths t.by up a p
