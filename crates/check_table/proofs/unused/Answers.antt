use Rattle.check_table.proofs.Entries.{unused_none, unused_more, unused_all}
use native.Mathlib.Omega.{arith}
use Rattle.check_table.proofs.unused.Goals as goal

pub loop-k-init : goal.loop-k-init
loop-k-init c = (omega arith, unused_none _ _)

pub returns-then-not-side_zero : goal.returns-then-not-side_zero
returns-then-not-side_zero c = (omega arith, c.loop-k.invariant.1)

pub loop-k-preserved : goal.loop-k-preserved
loop-k-preserved c = (
  omega arith,
  unused_more _ _ _ c.loop-k.invariant.1 c.side_zero.ensures (c.if-not-side_zero.false),
)

pub returns : goal.returns
returns c = (omega arith, unused_all _ _ _ _ c.loop-k.invariant.1 (omega arith))
