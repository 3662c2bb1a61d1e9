use mathlib.Core.Path.{sym, ◌∙◌}
use native.Mathlib.Omega.{arith}
use Rattle.plan.proofs.JointLaws.{router_is}
use Rattle.load_arrivals.proofs.Charts.{next_router, next_none}
use Rattle.load_arrivals.proofs.next_of.Goals as goal

pub overflow_cast-result : goal.overflow_cast-result
overflow_cast-result c =
    let is = router_is _ (sym c.joint_of.ensures ∙ c.in-Router.is) in record { fits = omega (arith, is.1) }

pub returns-in-Router : goal.returns-in-Router
returns-in-Router c = sym (next_router _ (sym c.joint_of.ensures ∙ c.in-Router.is))

pub returns-in_default : goal.returns-in_default
returns-in_default c = sym (next_none _ (λ n t q. c.in_default.not-Router n t (c.joint_of.ensures ∙ q)))
