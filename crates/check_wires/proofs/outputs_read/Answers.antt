use Rattle.check_wires.proofs.Phased.{far_none, far_more, far_fails, far_done}
use Rattle.check_wires.proofs.Bringing.{brought_few}
use Rattle.check_wires.proofs.Carrying.{table_head, ready_counts}
use native.Mathlib.Omega.{arith}
use Rattle.check_wires.proofs.outputs_read.Goals as goal

pub output_count-n-requires : goal.output_count-n-requires
output_count-n-requires c = ready_counts c.requires.0

pub output_row-at-requires : goal.output_row-at-requires
output_row-at-requires c = (ready_counts c.requires.0, omega arith)

pub loop-m-init : goal.loop-m-init
loop-m-init c = (omega arith, far_none _ _ _ _)

pub overflow_mul-m : goal.overflow_mul-m
overflow_mul-m c = let k = c.output_count-n.ensures.1 in omega arith

pub output_ok-requires : goal.output_ok-requires
output_ok-requires c =
    let p = c.requires in
    let e = c.output_count-n.ensures.0 in
    let f = c.output_row-at.ensures in (
      p.0,
      omega arith,
      brought_few _ _ _ _ _ p.3 c.loop-m.invariant.1.come,
      p.1,
      p.2,
      omega arith,
    )

pub returns-then-not-output_ok : goal.returns-then-not-output_ok
returns-then-not-output_ok c =
    let p = c.requires in
    let e = c.output_count-n.ensures.0 in
    far_fails _ _ _ (table_head p.0) c.loop-m.m (omega arith)
    c.output_ok.ensures (c.if-not-output_ok.true) _ _ _ _

pub loop-m-preserved : goal.loop-m-preserved
loop-m-preserved c = (
  omega arith,
  far_more _ _ _ c.loop-m.invariant.1
      c.output_ok.ensures (c.if-not-output_ok.false),
)

pub returns : goal.returns
returns c =
    let p = c.requires in
    let e = c.output_count-n.ensures.0 in
    far_done _ _ _ (table_head p.0) c.loop-m.m c.loop-m.invariant.1 (omega arith)
