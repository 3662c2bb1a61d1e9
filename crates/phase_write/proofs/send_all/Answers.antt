use mathlib.Core.Path.{refl, sym, ap, ◌∙◌}
use Prim.Native.Nat.{◌+◌, ◌*◌}
use native.Mathlib.Omega.{arith}
use lib.ListN.{length}
use borrow.Author.Tests.{not-false, eqb-true}
use Rattle.plan.specs.Tables.{table_plan}
use Rattle.bytes_steps.specs.Acts.{steps_none}
use Rattle.phase_read.proofs.Offsets.{table_head}
use Rattle.phase_write.proofs.Turns.{choice_within, send_none}
use Rattle.phase_write.proofs.Phase.{sends_at, sends_more}
use Rattle.phase_write.proofs.send_all.Goals as goal
use Rattle.phase_write.proofs.send_all.Goals.{then-picked, else-picked}

pub loop-m-init : goal.loop-m-init
loop-m-init c = (omega arith, steps_none _ _ _ _, refl)

pub picked-requires : goal.picked-requires
picked-requires c =
    let pre = c.requires in
    let n = c.output_count-count.ensures in
    let at = c.output_row-from.ensures in
    let l = c.loop-m in
    let w = choice_within (table_plan _ _ _) (table_head _ _ _) l.m
    (c.output_row-from.result + 7 * l.m) (omega arith) (omega arith)
    (sends_at (table_head _ _ _) pre.0.range pre.0.wired (omega arith) l.invariant.1 pre.1) in
    omega arith

pub send-requires : goal.send-requires
send-requires c =
    let pre = c.requires in
    let n = c.output_count-count.ensures in
    let l = c.loop-m in (
      pre.0,
      omega arith,
      sends_at (table_head _ _ _) pre.0.range pre.0.wired (omega arith) l.invariant.1 pre.1,
    )

pub loop-m-preserved : goal.loop-m-preserved
loop-m-preserved c =
    let pre = c.requires in
    let n = c.output_count-count.ensures in
    let at = c.output_row-from.ensures in
    let l = c.loop-m in
    elim c.if-picked.branch [
      | then-picked w ↦ (
        omega arith,
        sends_more (table_head _ _ _) pre.0.range pre.0.wired (omega arith) l.invariant.1
            w.send.ensures w.s-is,
        ap length w.s-is ∙ w.send.auto.s ∙ l.invariant.2,
      )
      | else-picked w ↦ (
        omega arith,
        sends_more (table_head _ _ _) pre.0.range pre.0.wired (omega arith) l.invariant.1
            (send_none (table_plan _ _ _) (table_head _ _ _) l.m
            (c.output_row-from.result + 7 * l.m) (omega arith) (omega arith) _
            (eqb-true _ _ (not-false _ (sym c.picked.ensures ∙ w.if-picked.false))))
            w.s-is,
        ap length w.s-is ∙ l.invariant.2,
      )
    ]
