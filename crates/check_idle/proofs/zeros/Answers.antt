use Rattle.check_idle.proofs.Stretch.{zeros_none, zeros_next, zeros_all}
use native.Mathlib.Omega.{arith}
use Rattle.check_idle.proofs.zeros.Goals as goal

pub loop-k-init : goal.loop-k-init
loop-k-init c = (omega arith, zeros_none _ _)

pub loop-k-preserved : goal.loop-k-preserved
loop-k-preserved c = (
  omega arith,
  zeros_next _ _ _ c.loop-k.invariant.1 c.join-any.ensures,
)

pub returns : goal.returns
returns c = zeros_all _ _ _ _ c.loop-k.invariant.1 (omega arith)
