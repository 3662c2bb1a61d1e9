use native.Mathlib.Omega.{arith}
use Rattle.fields.specs.Laws.{field_lt}
use Rattle.plan_routes.proofs.one.Goals as goal

pub put-requires : goal.put-requires
put-requires c = (omega arith, omega arith, rw c.field-side.ensures (field_lt _ _ 3))

pub returns : goal.returns
returns c = rw (← c.field-side.ensures) c.put.ensures
