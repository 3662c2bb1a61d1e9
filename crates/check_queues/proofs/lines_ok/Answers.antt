use native.Mathlib.Omega.{arith}
use Rattle.check_queues.proofs.Groups.{active_out_cap, passive_out_cap, active_in_cap, passive_in_cap, lines_first}
use Rattle.check_queues.proofs.Groups.{lines_second, lines_all}
use Rattle.check_queues.proofs.lines_ok.Goals as goal

pub interfaces_ok-requires : goal.interfaces_ok-requires
interfaces_ok-requires c =
    let p = c.requires in
    (p.0, omega arith, p.1, p.2, λ k l. active_out_cap _ _ _ k l, λ k l. passive_out_cap _ _ _ k l)

pub returns-then-not-interfaces_ok : goal.returns-then-not-interfaces_ok
returns-then-not-interfaces_ok c =
    lines_first _ _ _ _ (rw (c.if-not-interfaces_ok.true) at
    c.interfaces_ok.ensures)

pub returns-then-not-routers_ok : goal.returns-then-not-routers_ok
returns-then-not-routers_ok c =
    lines_second _ _ _ _ (rw (c.if-not-interfaces_ok.false) at c.interfaces_ok.ensures) (rw
    (c.if-not-routers_ok.true) at c.routers_ok.ensures)

pub overflow_add-from : goal.overflow_add-from
overflow_add-from c =
    let p = c.requires in
    let r = p.0.lent.range in
    let n = r.routers.1 in
    let a = r.actives.1 in
    let q = r.passives.1 in
    omega arith

pub overflow_mul-from : goal.overflow_mul-from
overflow_mul-from c =
    let p = c.requires in
    let r = p.0.lent.range in
    let n = r.routers.1 in
    let a = r.actives.1 in
    let q = r.passives.1 in
    omega arith

pub overflow_add-from-2 : goal.overflow_add-from-2
overflow_add-from-2 c =
    let p = c.requires in
    let r = p.0.lent.range in
    let n = r.routers.1 in
    let a = r.actives.1 in
    let q = r.passives.1 in
    omega arith

pub interfaces_ok-requires-2 : goal.interfaces_ok-requires-2
interfaces_ok-requires-2 c =
    let p = c.requires in
    (p.0, omega arith, p.1, p.2, λ k l. active_in_cap _ _ _ k l, λ k l. passive_in_cap _ _ _ k l)

pub returns : goal.returns
returns c =
    lines_all _ _ _ _ (rw (c.if-not-interfaces_ok.false) at c.interfaces_ok.ensures)
    (rw (c.if-not-routers_ok.false) at c.routers_ok.ensures)
    c.interfaces_ok-2.ensures
