use Rattle.plan_routes.proofs.Routing.{row_inside}
use Prim.Native.Nat.{◌+◌, ◌≤◌}
use native.Mathlib.Omega.{arith}
use native.Mathlib.Nat.{mul-le-mul_right}
use Rattle.plan_routes.proofs.Routing.{rows_none, rows_next, rows_more, rows_done}
use Rattle.plan_routes.proofs.routes.Goals as goal

pub loop-r-init : goal.loop-r-init
loop-r-init c = (omega arith, rows_none _ _ _ _ _ c.requires.2)

pub overflow_mul-n : goal.overflow_mul-n
overflow_mul-n c =
    let h : c.args.h.actives
    + c.args.h.passives ≤ 32 = omega arith in
    record { fits = omega (arith, mul-le-mul_right c.loop-r.r h) }

pub overflow_mul-n-in-loop-r : goal.overflow_mul-n-in-loop-r
overflow_mul-n-in-loop-r c =
    let h : c.args.h.actives
    + c.args.h.passives ≤ 32 = omega arith in
    record { fits = omega (arith, mul-le-mul_right c.loop-r.r h) }

pub overflow_add-at-in-loop-r : goal.overflow_add-at-in-loop-r
overflow_add-at-in-loop-r c =
    let h : c.args.h.actives
    + c.args.h.passives ≤ 32 = omega arith in
    record { fits = omega (arith, mul-le-mul_right c.loop-r.r h) }

pub read_row-ok-requires : goal.read_row-ok-requires
read_row-ok-requires c =
    let h : c.args.h.actives + c.args.h.passives ≤ 32 = omega arith in
    let row = mul-le-mul_right c.loop-r.r h in
    let inside = row_inside (c.args.h.actives + c.args.h.passives) c.loop-r.r c.args.h.routers (omega arith) in
    let long = c.requires.1 in (
      omega arith,
      omega arith,
      omega arith,
      rows_next _ _ _ _ (omega arith) c.loop-r.invariant.1,
    )

pub loop-r-preserved : goal.loop-r-preserved
loop-r-preserved c = (
  omega arith,
  rows_more _ _ _ _ (omega arith) c.loop-r.invariant.1 c.read_row-ok.ensures,
)

pub returns : goal.returns
returns c = rows_done _ _ (omega arith) (omega arith) _ (omega arith) c.loop-r.invariant.1
