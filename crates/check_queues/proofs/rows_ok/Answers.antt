use Prim.Native.Nat.{◌+◌, ◌<◌}
use native.Mathlib.Omega.{arith}
use Rattle.bytes_steps.specs.Counts.{queue_count}
use Rattle.check_queues.proofs.Turns.{rows_none, rows_more, rows_fail, skipped, queue_in}
use Rattle.check_queues.proofs.rows_ok.Goals as goal

pub loop-j-init : goal.loop-j-init
loop-j-init c = (omega arith, rows_none _ _ _ _)

pub row_busy-requires : goal.row_busy-requires
row_busy-requires c =
    let p = c.requires in
    let n = p.1 in
    let j = c.in-Some.ensures.1 in
    let i : c.args.from + c.in-Some.j < queue_count c.args.h = omega arith in
    (p.0, i, p.3, p.4 _ j, p.5 _ (queue_in _ _ _ _ i))

pub returns-then-not-row_busy : goal.returns-then-not-row_busy
returns-then-not-row_busy c =
    rows_fail _ _ _ _ _ _ c.in-Some.ensures.1 c.row_busy.ensures c.if-not-row_busy.true

pub loop-j-preserved : goal.loop-j-preserved
loop-j-preserved c =
    let p = c.requires in
    let j = c.in-Some.ensures in (
      omega (arith, j.1),
      rows_more _ _ _ _ _
          (skipped _ _ _ p.0.lent.range _ _ _ _ _ _ _ p.1 p.4 p.5 _ _ c.loop-j.invariant.1 j.0) c.row_busy.ensures
          c.if-not-row_busy.false,
    )

pub returns : goal.returns
returns c =
    let p = c.requires in
    skipped _ _ _ p.0.lent.range _ _ _ _ _ _ _ p.1 p.4 p.5 _ _ c.loop-j.invariant.1 c.in_default.ensures.0
