use mathlib.Core.Path.{refl, ◌∙◌}
use Rattle.graph_met.proofs.Trailing.{lengthens_none, lengthens_on, lengthens_done, room_on}
use Rattle.graph_reach.proofs.Sweeps.{swept_none, swept_more, swept_done}
use native.Mathlib.Omega.{arith}
use Rattle.graph_met.proofs.sweep_up.Goals as goal

pub loop-x-init : goal.loop-x-init
loop-x-init c = (omega arith, swept_none _ _ _, refl, lengthens_none _ _ _ _)

pub step-requires : goal.step-requires
step-requires c = (
  omega arith,
  c.requires.1,
  omega (arith, c.requires.2, c.loop-x.invariant.2),
  room_on _ _ _ _ 1 (omega arith) c.requires.3 c.loop-x.invariant.3,
)

pub loop-x-preserved : goal.loop-x-preserved
loop-x-preserved c =
    let inv = c.loop-x.invariant in
    let step = c.step in (
      omega arith,
      swept_more _ _ _ _ _ _ inv.1 step.ensures.0 step.ensures.1 c.either-new.ensures,
      step.auto.up ∙ inv.2,
      lengthens_on _ _ _ _ inv.3 step.ensures.2,
    )

pub returns : goal.returns
returns c = swept_done _ _ _ _ _ _ _ c.loop-x.invariant.1 (omega arith)
    (lengthens_done _ _ _ _ (omega arith) c.loop-x.invariant.3)
