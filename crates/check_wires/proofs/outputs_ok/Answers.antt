use Rattle.check_wires.proofs.Phased.{execute_all, outside_read}
use Rattle.check_wires.proofs.Carrying.{table_head, ready_counts}
use mathlib.Core.Path.{◌∙◌}
use native.Mathlib.Omega.{arith}
use Rattle.check_wires.proofs.outputs_ok.Goals as goal

pub outputs_read-requires : goal.outputs_read-requires
outputs_read-requires c =
    let p = c.requires in
    (p.0, p.1, c.if-s-eq0.true, p.3)

pub returns-then-s-eq0 : goal.returns-then-s-eq0
returns-then-s-eq0 c = c.outputs_read.ensures

pub outputs_write-requires : goal.outputs_write-requires
outputs_write-requires c =
    let p = c.requires in
    (ready_counts p.0, p.1, c.if-s-eq2.true)

pub returns-then-s-eq2 : goal.returns-then-s-eq2
returns-then-s-eq2 c =
    let p = c.requires in
    outside_read _ _ _ (table_head p.0) c.if-s-eq0.false _ _ (c.outputs_write.ensures _
    (table_head p.0))

pub output_row-requires : goal.output_row-requires
output_row-requires c = (ready_counts c.requires.0, omega arith)

pub output_count-requires : goal.output_count-requires
output_count-requires c = ready_counts c.requires.0

pub overflow_mul-output_count : goal.overflow_mul-output_count
overflow_mul-output_count c = let k = c.output_count.ensures.1 in omega arith

pub zeros-requires : goal.zeros-requires
zeros-requires c =
    let p = c.requires in
    let e = c.output_count.ensures.0 in
    let g = c.output_count.ensures.1 in
    let f = c.output_row.ensures in
    let z = p.1 in
    (omega arith, omega arith)

pub returns : goal.returns
returns c =
    let p = c.requires in
    let l = p.2 in
    let a = c.if-s-eq0.false in
    let b = c.if-s-eq2.false in
    outside_read _ _ _ (table_head p.0) c.if-s-eq0.false _ _
    (c.zeros.ensures ∙ execute_all _ _ _ (table_head p.0) (omega arith) _ _
    c.output_row.ensures c.output_count.ensures.0)
