use mathlib.Core.Bool.{false≢true}
use Rattle.check_idle.proofs.Stretch.{sides_none, sides_more, sides_done}
use native.Mathlib.Omega.{arith}
use Rattle.check_idle.proofs.sides_idle.Goals as goal

pub loop-o-init : goal.loop-o-init
loop-o-init c = (omega arith, sides_none _ _ _)

pub returns-then-not-side_idle : goal.returns-then-not-side_idle
returns-then-not-side_idle c = λ e. absurd (false≢true e)

pub loop-o-preserved : goal.loop-o-preserved
loop-o-preserved c = (
  omega arith,
  sides_more _ _ _ _ c.loop-o.invariant.1 (c.side_idle.ensures (c.if-not-side_idle.false)),
)

pub returns : goal.returns
returns c = λ e. sides_done _ _ _ _ _ c.loop-o.invariant.1 (omega arith)
