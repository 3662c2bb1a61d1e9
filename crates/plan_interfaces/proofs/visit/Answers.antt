use mathlib.Core.Path.{refl}
use native.Mathlib.Omega.{arith}
use Rattle.plan.proofs.JointLaws.{step_none, step_some, back_none, router_is}
use Rattle.plan_interfaces.proofs.visit.Goals as goal

pub returns-in_default : goal.returns-in_default
returns-in_default c = (step_none _ _ _ _ _ (c.column.ensures.1 c.in_default.is), c.back_ok.ensures _)

pub returns : goal.returns
returns c =
    let at = c.column.ensures.0 c.in-Some.d c.in-Some.is in (
      step_some _ _ _ _ _ at.0 at.1 c.mark.ensures,
      back_none _ _ _ refl (λ n t q. let is = router_is _ q in omega (arith, is.0, at.2)),
    )
