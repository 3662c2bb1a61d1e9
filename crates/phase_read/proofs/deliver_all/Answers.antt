use mathlib.Core.Path.{refl, ap, ◌∙◌}
use Prim.Native.Nat.{◌+◌, ◌*◌}
use native.Mathlib.Omega.{arith}
use lib.ListN.{length}
use Rattle.plan.specs.Tables.{table_plan}
use Rattle.bytes_steps.specs.Acts.{steps_none}
use Rattle.phase_read.proofs.Offsets.{table_head}
use Rattle.phase_read.proofs.Arrivals.{wire_within, deliver_idle}
use Rattle.phase_read.proofs.Phase.{delivers_at, delivers_more}
use Rattle.phase_read.proofs.deliver_all.Goals as goal
use Rattle.phase_read.proofs.deliver_all.Goals.{then-full, else-full}

pub loop-m-init : goal.loop-m-init
loop-m-init c = (omega arith, steps_none _ _ _ _, refl)

pub full-requires : goal.full-requires
full-requires c =
    let pre = c.requires in
    let n = c.output_count-count.ensures in
    let at = c.output_row-from.ensures in
    let l = c.loop-m in
    let w = wire_within (table_plan _ _ _) (table_head _ _ _) l.m
    (c.output_row-from.result + 7 * l.m) (omega arith) (omega arith)
    (delivers_at (table_head _ _ _) pre.0.range pre.0.wired (omega arith) l.invariant.1 pre.1) in
    omega arith

pub deliver-requires : goal.deliver-requires
deliver-requires c =
    let pre = c.requires in
    let n = c.output_count-count.ensures in
    let l = c.loop-m in (
      pre.0,
      omega arith,
      delivers_at (table_head _ _ _) pre.0.range pre.0.wired (omega arith) l.invariant.1 pre.1,
    )

pub loop-m-preserved : goal.loop-m-preserved
loop-m-preserved c =
    let pre = c.requires in
    let n = c.output_count-count.ensures in
    let at = c.output_row-from.ensures in
    let l = c.loop-m in
    elim c.if-full.branch [
      | then-full w ↦ (
        omega arith,
        delivers_more (table_head _ _ _) pre.0.range pre.0.wired (omega arith) l.invariant.1
            w.deliver.ensures w.s-is,
        ap length w.s-is ∙ w.deliver.auto.s ∙ l.invariant.2,
      )
      | else-full w ↦ (
        omega arith,
        delivers_more (table_head _ _ _) pre.0.range pre.0.wired (omega arith) l.invariant.1
            (deliver_idle (table_plan _ _ _) (table_head _ _ _) l.m
            (c.output_row-from.result + 7 * l.m) (omega arith) (omega arith) _
            c.full.ensures w.if-full.false)
            w.s-is,
        ap length w.s-is ∙ l.invariant.2,
      )
    ]
