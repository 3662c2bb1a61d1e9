use mathlib.Core.Path.{◌∙◌}
use native.Mathlib.Omega.{arith}
use Rattle.graph_flow.proofs.Laws.{round_more}
use Rattle.graph_flow.proofs.sweep_down.Goals as goal

pub loop-x-preserved : goal.loop-x-preserved
loop-x-preserved c = (
  omega arith,
  c.step-left.ensures.long ∙ c.loop-x.invariant.1,
  λ first k r.
      round_more _ _ _ _ _ (omega arith) c.step-left.ensures (c.loop-x.invariant.2 first k r),
)
