use native.Mathlib.Omega.{arith}
use Rattle.graph_reach.proofs.Sized.{grows_on}
use Rattle.graph_reach.specs.Reach.{down_of, sweep_at}
use Rattle.basis.specs.Fold.{down_none, down_more, down_done}
use Rattle.graph_reach.proofs.sweep_down.Goals as goal

pub loop-x-init : goal.loop-x-init
loop-x-init c = (omega arith, down_none (sweep_at _ _) _ _, λ first told w. w)

pub loop-x-preserved : goal.loop-x-preserved
loop-x-preserved c = (
  omega arith,
  down_more (sweep_at _ _) _ _ _ c.loop-x.invariant.0 (omega arith) c.loop-x.invariant.1 c.step.ensures.0,
  grows_on _ _ _ _ c.loop-x.invariant.2 c.step.ensures.2,
)

pub returns : goal.returns
unfolding down_of
returns c = (down_done (sweep_at _ _) _ _ c.loop-x.invariant.1 (omega arith), c.loop-x.invariant.2)
