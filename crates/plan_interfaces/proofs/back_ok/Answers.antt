use mathlib.Core.Path.{sym, ◌∙◌}
use native.Mathlib.Omega.{arith}
use Rattle.plan.proofs.JointLaws.{back_none, back_router, router_is}
use Rattle.plan_interfaces.proofs.back_ok.Goals as goal

pub returns-in_default : goal.returns-in_default
returns-in_default c = λ h. back_none h c.args.joints.now c.args.i c.joint_of.ensures c.in_default.not-Router

pub overflow_mul-w : goal.overflow_mul-w
overflow_mul-w c =
    let is = router_is _ (sym c.joint_of.ensures ∙ c.in-Router.is) in record { fits = omega (arith, is.1) }

pub overflow_add-w : goal.overflow_add-w
overflow_add-w c =
    let is = router_is _ (sym c.joint_of.ensures ∙ c.in-Router.is) in record { fits = omega (arith, is.1, is.2) }

pub bounds-joints-r : goal.bounds-joints-r
bounds-joints-r c = let is = router_is _ (sym c.joint_of.ensures ∙ c.in-Router.is) in omega (arith, is.1, is.2)

pub returns : goal.returns
returns c = λ h. back_router h c.args.joints.now c.args.i c.requires c.joint_of.ensures c.in-Router.is
