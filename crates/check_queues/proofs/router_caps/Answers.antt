use Rattle.basis.specs.Fold.{up_none, up_fill, up_done}
use native.Mathlib.Omega.{arith}
use Rattle.check_queues.proofs.router_caps.Goals as goal

pub loop-k-init : goal.loop-k-init
loop-k-init c = up_none _ _

pub loop-k-preserved : goal.loop-k-preserved
loop-k-preserved c = up_fill _ _ _ c.loop-k.invariant c.cap_in.ensures

pub returns : goal.returns
unfolding Rattle.check_queues.specs.Lines.router_caps
returns c = up_done _ _ c.loop-k.invariant (omega arith)
