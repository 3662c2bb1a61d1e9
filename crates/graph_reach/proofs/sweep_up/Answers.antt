use native.Mathlib.Omega.{arith}
use Rattle.graph_reach.proofs.Sized.{grows_on}
use Rattle.graph_reach.proofs.Sweeps.{swept_none, swept_more, swept_done}
use Rattle.graph_reach.proofs.sweep_up.Goals as goal

pub loop-x-init : goal.loop-x-init
loop-x-init c = (omega arith, swept_none _ _ _, λ first told w. w)

pub loop-x-preserved : goal.loop-x-preserved
loop-x-preserved c = (
  omega arith,
  swept_more _ _ _ _ _ _ c.loop-x.invariant.1
      c.step.ensures.0 c.step.ensures.1 c.either-new.ensures,
  grows_on _ _ _ _ c.loop-x.invariant.2 c.step.ensures.2,
)

pub returns : goal.returns
returns c = swept_done _ _ _ _ _ _ _ c.loop-x.invariant.1 (omega arith) c.loop-x.invariant.2
