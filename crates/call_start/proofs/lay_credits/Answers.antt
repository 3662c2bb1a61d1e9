use mathlib.Core.Path.{refl}
use native.Mathlib.Omega.{arith}
use lib.ListN.{length-set}
use Rattle.basis.specs.Fold.{up_none, up_more, up_done}
use Rattle.call_start.proofs.lay_credits.Goals as goal

pub loop-i-init : goal.loop-i-init
loop-i-init c = (omega arith, up_none _ _, refl)

pub loop-i-preserved : goal.loop-i-preserved
loop-i-preserved c = (
  omega arith,
  up_more _ _ _ c.loop-i.invariant.1 refl,
  simp length-set c.loop-i.invariant.2,
)

pub returns : goal.returns
unfolding Rattle.call_start.specs.Starting.credits
returns c = up_done _ _ c.loop-i.invariant.1 (omega arith)
