use Rattle.graph_ring.specs.Cells.{down_of, judge_at}
use Rattle.basis.specs.Fold.{down_none, down_more, down_done}
use native.Mathlib.Omega.{arith}
use Rattle.graph_ring.proofs.sweep_down.Goals as goal

pub loop-g-init : goal.loop-g-init
loop-g-init c = (omega arith, down_none (judge_at _) _ _)

pub loop-g-preserved : goal.loop-g-preserved
unfolding judge_at
loop-g-preserved c = (
  omega arith,
  down_more (judge_at _) _ _ _ c.loop-g.invariant.0 (omega arith) c.loop-g.invariant.1 (rw c.judge.ensures),
)

pub returns : goal.returns
unfolding down_of
returns c = down_done (judge_at _) _ _ c.loop-g.invariant.1 (omega arith)
