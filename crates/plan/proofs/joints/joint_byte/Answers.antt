use Prim.Native.Nat.{◌<◌}
use native.Mathlib.Omega.{arith}
use Rattle.fields.specs.Laws.{field_lt}
use Rattle.plan.specs.Tables.{joint_byte}
use Rattle.plan.proofs.joints.joint_byte.Goals as goal

pub overflow_mul-result : goal.overflow_mul-result
overflow_mul-result c =
    let kind : c.field-kind.result < 4 = rw c.field-kind.ensures (field_lt _ _ 2) in
    record { fits = omega arith }

pub overflow_mul-result-2 : goal.overflow_mul-result-2
overflow_mul-result-2 c =
    let number : c.field-number.result < 16 = rw c.field-number.ensures (field_lt _ _ 4) in
    record { fits = omega arith }

pub overflow_add-result : goal.overflow_add-result
overflow_add-result c =
    let kind : c.field-kind.result < 4 = rw c.field-kind.ensures (field_lt _ _ 2) in
    let number : c.field-number.result < 16 = rw c.field-number.ensures (field_lt _ _ 4) in
    record { fits = omega arith }

pub overflow_add-result-2 : goal.overflow_add-result-2
overflow_add-result-2 c =
    let kind : c.field-kind.result < 4 = rw c.field-kind.ensures (field_lt _ _ 2) in
    let number : c.field-number.result < 16 = rw c.field-number.ensures (field_lt _ _ 4) in
    let side : c.field-side.result < 4 = rw c.field-side.ensures (field_lt _ _ 2) in
    record { fits = omega arith }

pub returns : goal.returns
unfolding joint_byte
returns c = rw (c.field-kind.ensures, c.field-number.ensures, c.field-side.ensures)
