use native.Mathlib.Omega.{arith}
use Rattle.check_queues.proofs.Groups.{router_caps_lem, routers_start, routers_more, routers_fail, routers_done}
use Rattle.check_queues.proofs.routers_ok.Goals as goal

pub overflow_add-d : goal.overflow_add-d
overflow_add-d c =
    let r = c.requires.0.lent.range in
    let a = r.actives.1 in
    let p = r.passives.1 in
    omega arith

pub loop-r-init : goal.loop-r-init
loop-r-init c = (omega arith, routers_start _ _ _ _)

pub overflow_mul-r : goal.overflow_mul-r
overflow_mul-r c = let r = c.requires.0.lent.range.routers.1 in omega arith

pub overflow_add-d-in-loop-r : goal.overflow_add-d-in-loop-r
overflow_add-d-in-loop-r c =
    let r = c.requires.0.lent.range in
    let n = r.routers.1 in
    let a = r.actives.1 in
    let p = r.passives.1 in
    omega arith

pub rows_ok-requires : goal.rows_ok-requires
rows_ok-requires c =
    let p = c.requires in
    let l = c.loop-r-test.true in (
      p.0,
      omega arith,
      omega arith,
      p.1,
      λ k h. rw c.router_caps-caps.ensures
          (router_caps_lem _ _ _ _ k l h),
      p.2,
    )

pub returns-then-not-rows_ok : goal.returns-then-not-rows_ok
returns-then-not-rows_ok c =
    routers_fail _ _ _ _ _ c.loop-r-test.true
    c.loop-r.invariant.1 (rw (c.if-not-rows_ok.true) at c.rows_ok.ensures)

pub loop-r-preserved : goal.loop-r-preserved
loop-r-preserved c = (
  omega arith,
  routers_more _ _ _ _ c.loop-r.invariant.1 (rw (c.if-not-rows_ok.false) at c.rows_ok.ensures),
)

pub returns : goal.returns
returns c = routers_done _ _ _ c.loop-r.invariant.1 (omega arith)
