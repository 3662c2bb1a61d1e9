use Rattle.plan_walks.proofs.Through.{step_none, step_end, step_on, step_lost, router_small}
use native.Mathlib.Omega.{arith}
use borrow.Author.Rules.{rules}
use Rattle.plan_walks.proofs.step_to.Goals as goal

pub returns-then-side-gt3 : goal.returns-then-side-gt3
returns-then-side-gt3 c = λ h w. step_none h _ _ _ _ c.side_out.ensures c.from-side.ensures c.if-side-gt3.true

pub returns-then-eq : goal.returns-then-eq
returns-then-eq c =
    λ h w. step_end h _ _ _ _ c.side_out.ensures c.from-side.ensures c.if-side-gt3.false c.joint_of-joint.ensures w
    (search rules)

pub overflow_mul-result : goal.overflow_mul-result
overflow_mul-result c =
    let small = router_small _ c.joint_of-joint.ensures c.in-Router.is in record { fits = omega (arith, small.0) }

pub overflow_add-result : goal.overflow_add-result
overflow_add-result c =
    let small = router_small _ c.joint_of-joint.ensures c.in-Router.is in
    record { fits = omega (arith, small.0, small.1) }

pub returns-in-Router : goal.returns-in-Router
returns-in-Router c =
    λ h w. step_on h _ _ _ _ c.side_out.ensures c.from-side.ensures c.if-side-gt3.false c.joint_of-joint.ensures w
    (search rules) c.in-Router.is

pub returns-in_default : goal.returns-in_default
returns-in_default c =
    λ h w. step_lost h _ _ _ _ c.side_out.ensures c.from-side.ensures c.if-side-gt3.false c.joint_of-joint.ensures w
    (search rules) c.in_default.not-Router
