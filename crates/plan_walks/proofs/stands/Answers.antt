use native.Mathlib.Omega.{arith}
use Rattle.plan_walks.proofs.Stood.{stood_none, stood_more}
use Rattle.plan_walks.proofs.Ends.{over, stands_over, stands_on_lem}
use Rattle.plan_walks.proofs.stands.Goals as goal

pub loop-i-init : goal.loop-i-init
loop-i-init c = (omega arith, stood_none _ _ _ _ _ (omega arith))

pub returns-in_default : goal.returns-in_default
returns-in_default c =
    let want = c.leading_to-want.ensures in
    let inv = c.loop-i.invariant in
    stands_over c.args.h want inv.1 c.step_to-s.ensures
    (over _ c.in_default.not-On) (omega arith)

pub loop-i-preserved : goal.loop-i-preserved
loop-i-preserved c =
    let want = c.leading_to-want.ensures in
    let inv = c.loop-i.invariant in (
      omega arith,
      stood_more inv.1 c.step_to-s.ensures c.in-On.is c.args.h want,
    )

pub returns : goal.returns
returns c = stands_on_lem c.args.h c.leading_to-want.ensures
    c.loop-i.invariant.1 (omega arith)
