use mathlib.Core.Path.{◌≡◌}
use Prim.Native.Nat.{◌+◌}
use native.Mathlib.Omega.{arith}
use Rattle.plan_routes.proofs.Marks.{group_none, group_more, side_of, side_small}
use Rattle.plan_routes.proofs.some.Goals as goal

pub loop-k-init : goal.loop-k-init
loop-k-init c = (omega arith, group_none _ _ _)

pub field-side-requires : goal.field-side-requires
field-side-requires c = (omega arith, omega arith, omega arith)

pub put-s-requires : goal.put-s-requires
put-s-requires c =
    let a = c.args in
    let side = side_of a.plan.now a.at (a.d + c.loop-k.k) c.field-side.ensures in
    (omega arith, omega arith, rw side (side_small a.plan.now a.at (a.d + c.loop-k.k)))

pub loop-k-preserved : goal.loop-k-preserved
loop-k-preserved c =
    let a = c.args in
    let side = side_of a.plan.now a.at (a.d + c.loop-k.k)
    c.field-side.ensures in (
      omega arith,
      group_more _ _ _ c.loop-k.invariant.1 (omega arith) side
          c.put-s.ensures,
    )

pub returns : goal.returns
returns c =
    let end : c.loop-k.k ≡ c.args.m = omega arith in
    rw (← end) c.loop-k.invariant.1
