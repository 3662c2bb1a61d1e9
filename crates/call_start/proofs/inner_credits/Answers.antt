use mathlib.Core.Path.{refl, ◌∙◌}
use native.Mathlib.Omega.{arith}
use Rattle.basis.specs.Fold.{up_none, up_more, up_done}
use Rattle.call_start.specs.Starting.{router_credits}
use Rattle.call_start.proofs.inner_credits.Goals as goal

pub loop-r-init : goal.loop-r-init
loop-r-init c = (omega arith, up_none _ _, refl)

pub loop-r-preserved : goal.loop-r-preserved
loop-r-preserved c =
    let l = c.loop-r in
    let y = c.router_credits in
    (omega arith, up_more _ _ _ l.invariant.1 y.ensures, y.auto.t ∙ l.invariant.2)

pub returns : goal.returns
unfolding Rattle.call_start.specs.Starting.inner_credits
returns c = up_done _ _ c.loop-r.invariant.1 (omega arith)
