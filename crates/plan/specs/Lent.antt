-- The plan that a head and Load's tables give.
use Rattle.plan.specs.declared.Head.{Head}
use Rattle.plan.specs.declared.tables.PlanTables.{PlanTables}
use Rattle.plan.specs.Plan.{Plan}
use Rattle.plan.specs.Tables.{table_plan}

abbrev pub plan_by : Head → PlanTables → Plan
plan_by h t = table_plan h t.routes t.joints
