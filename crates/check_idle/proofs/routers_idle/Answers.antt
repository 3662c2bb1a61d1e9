use mathlib.Core.Path.{refl}
use mathlib.Core.Bool.{false≢true}
use Rattle.check_idle.proofs.Stretch.{routers_none, routers_more, routers_done}
use native.Mathlib.Omega.{arith}
use Rattle.check_idle.proofs.routers_idle.Goals as goal

pub loop-k-init : goal.loop-k-init
loop-k-init c = (omega arith, refl, routers_none _ _ _)

pub returns-then-not-router_idle : goal.returns-then-not-router_idle
returns-then-not-router_idle c = λ e. absurd (false≢true e)

pub loop-k-preserved : goal.loop-k-preserved
loop-k-preserved c = (
  omega arith,
  c.loop-k.invariant.1,
  routers_more _ _ _ _ c.loop-k.invariant.2 (c.router_idle.ensures (c.if-not-router_idle.false)),
)

pub returns : goal.returns
returns c = λ e. routers_done _ _ _ _ _ c.loop-k.invariant.2 (omega arith)
