use Rattle.graph_met.proofs.Trailing.{lengthens_none, lengthens_on, lengthens_done, room_on}
use Rattle.graph_reach.specs.Reach.{down_of, sweep_at}
use Rattle.basis.specs.Fold.{down_none, down_more, down_done}
use mathlib.Core.Path.{refl, ◌∙◌}
use native.Mathlib.Omega.{arith}
use Rattle.graph_met.proofs.sweep_down.Goals as goal

pub loop-x-init : goal.loop-x-init
loop-x-init c = (
  omega arith,
  down_none (sweep_at _ _) _ _,
  refl,
  lengthens_done _ _ 0 _ (omega arith) (lengthens_none _ _ _ _),
)

pub step-requires : goal.step-requires
step-requires c = (
  omega arith,
  c.requires.1,
  omega (arith, c.requires.2, c.loop-x.invariant.2),
  room_on _ _ _ _ 1 (omega arith) c.requires.3 c.loop-x.invariant.3,
)

pub loop-x-preserved : goal.loop-x-preserved
loop-x-preserved c = (
  omega arith,
  down_more (sweep_at _ _) _ _ _ c.loop-x.invariant.0 (omega arith) c.loop-x.invariant.1 c.step.ensures.0,
  c.step.auto.up ∙ c.loop-x.invariant.2,
  lengthens_done _ _ _ _ (omega arith) (lengthens_on _ _ _ 1 c.loop-x.invariant.3 c.step.ensures.2),
)

pub returns : goal.returns
unfolding down_of
returns c = (
  down_done (sweep_at _ _) _ _ c.loop-x.invariant.1 (omega arith),
  lengthens_done _ _ _ _ (omega arith) c.loop-x.invariant.3,
)
