-- What the check of packets needs of its tables: Load's, and the routers that each walk meets.
use Rattle.std.specs.Prelude.{List, ℕ}
use Rattle.plan.specs.declared.Head.{Head}
use Rattle.plan.specs.declared.tables.PlanTables.{PlanTables}
use Rattle.plan.specs.Tables.{table_plan}
use Rattle.load_arrivals.specs.Tracks.{Tracks}
use Rattle.next_queue.specs.Lent.{Lent}

pub record Ready (h : Head) (routes : List (List ℕ)) (joints homes : List ℕ)
    (lengths by up : List (List ℕ)) : Type 0 where
  pub lent : Lent h routes joints homes lengths by
  pub tracks : Tracks (table_plan h routes joints) up

-- the same of Load's tables as they lie together
abbrev pub ReadyOf : Head → PlanTables → List (List ℕ) → Type 0
ReadyOf h t up = Ready h t.routes t.joints t.homes t.lengths t.by up
