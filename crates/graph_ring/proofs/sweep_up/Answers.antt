use Rattle.graph_ring.proofs.Laws.{swept_none, swept_more, swept_done}
use native.Mathlib.Omega.{arith}
use Rattle.graph_ring.proofs.sweep_up.Goals as goal

pub loop-g-init : goal.loop-g-init
loop-g-init c = (omega arith, swept_none _ _)

pub loop-g-preserved : goal.loop-g-preserved
loop-g-preserved c = (
  omega arith,
  swept_more _ _ c.loop-g.invariant.1
      c.judge-v.ensures c.less.ensures c.either-gone.ensures,
)

pub returns : goal.returns
returns c = swept_done _ _ c.loop-g.invariant.1 (omega arith)
