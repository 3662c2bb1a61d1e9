use mathlib.Core.Path.{◌∙◌}
use Rattle.graph_met.proofs.Trailing.{turning_on, turns_done}
use native.Mathlib.Omega.{arith}
use Rattle.graph_met.proofs.sides.Goals as goal

pub side-requires : goal.side-requires
side-requires c = (
  c.requires.0,
  omega arith,
  c.requires.1,
  omega (arith, c.requires.2, c.loop-o.invariant.1),
  turning_on _ _ _ _ _ _ c.requires.3 c.loop-o.invariant.2,
)

pub loop-o-preserved : goal.loop-o-preserved
loop-o-preserved c = (
  omega arith,
  c.side.auto.up ∙ c.loop-o.invariant.1,
  λ first b w. c.side.ensures first b (c.loop-o.invariant.2 first b w),
)

pub returns : goal.returns
returns c = turns_done _ _ _ _ _ (omega arith) c.loop-o.invariant.2
