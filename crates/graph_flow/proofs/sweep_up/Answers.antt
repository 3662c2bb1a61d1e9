use mathlib.Core.Path.{◌∙◌}
use native.Mathlib.Omega.{arith}
use Rattle.graph_flow.proofs.Laws.{turned_none, turned_more, turned_done}
use Rattle.graph_flow.proofs.sweep_up.Goals as goal

pub loop-x-preserved : goal.loop-x-preserved
loop-x-preserved c = (
  omega arith,
  c.step-left.ensures.long ∙ c.loop-x.invariant.1,
  λ first k r.
      turned_more _ _ _ _ _ (omega arith) c.step-left.ensures (c.loop-x.invariant.2 first k r),
)

pub returns : goal.returns
returns c = λ first k r. turned_done _ _ _ _ _ r (c.loop-x.invariant.2 first k r) (omega arith)
