use mathlib.Core.Path.{refl}
use Rattle.check_choices.proofs.Picking.{head_ranges, head_onward, send_empty, send_flag, send_mark, send_none}
use Rattle.check_choices.proofs.Picking.{send_below, send_credit}
use Rattle.check_choices.proofs.Named.{some_queue}
use native.Mathlib.Omega.{arith}
use Rattle.check_choices.proofs.may_send.Goals as goal

pub returns-then-s-i-eq0 : goal.returns-then-s-i-eq0
returns-then-s-i-eq0 c =
    let p = c.requires in
    send_empty _ _ _ _ p.0 _ p.2 _ _ p.3 p.4 p.5 _ c.queue_row-i.ensures
    c.if-s-i-eq0.true

pub returns-then-s-i-ne0 : goal.returns-then-s-i-ne0
returns-then-s-i-ne0 c =
    let p = c.requires in
    send_flag _ _ _ _ p.0 _ p.2 _ _ p.3 p.4 p.5 _
    c.queue_row-i.ensures c.if-s-i-ne0.true

pub returns-then-not-may_leave : goal.returns-then-not-may_leave
returns-then-not-may_leave c =
    let p = c.requires in
    send_mark _ _ _ _ p.0 _ p.2 _ _ p.3 p.4 p.5 _
    c.queue_row-i.ensures c.may_leave.ensures (c.if-not-may_leave.true)

pub overflow_add-n : goal.overflow_add-n
overflow_add-n c =
    let p = c.requires in
    let a = p.0.range.routers.1 in
    let b = p.0.range.actives.1 in
    let d = p.0.range.passives.1 in
    omega arith

pub next-requires : goal.next-requires
next-requires c =
    let p = c.requires in
    let r = head_ranges _ _ _ _ p.0 _ p.2 _ _ p.3 p.4 p.5 _
    c.queue_row-i.ensures
    c.if-s-i-eq0.false _ c.packet_at-x.ensures in
    let u = head_onward _ _ _ _ p.0 _ p.2 _ _ p.3 p.4 p.5 _
    c.queue_row-i.ensures
    c.if-s-i-eq0.false c.may_leave.ensures
    (c.if-not-may_leave.false) _ c.packet_at-x.ensures in
    (p.0, p.3, r.0, r.1, u)

pub returns-in_default : goal.returns-in_default
returns-in_default c =
    let p = c.requires in
    send_none _ _ _ _ p.0 _ p.2 _ _ p.3 p.4 p.5 _
    c.queue_row-i.ensures
    c.if-s-i-eq0.false
    c.if-s-i-ne0.false c.may_leave.ensures
    (c.if-not-may_leave.false) _ c.packet_at-x.ensures _
    c.in_default.ensures.queue refl

pub queue_row-requires : goal.queue_row-requires
queue_row-requires c =
    let p = c.requires in
    let l = send_below _ _ _ _ p.0 _ p.2 _ _ p.3 p.4 p.5 _
    c.queue_row-i.ensures
    c.if-s-i-eq0.false
    c.if-s-i-ne0.false c.may_leave.ensures
    (c.if-not-may_leave.false) _ c.packet_at-x.ensures _
    c.in-Some.ensures.queue (some_queue p.0.range p.4 c.in-Some.ensures.below) in
    let a = p.0.range.routers.1 in
    let b = p.0.range.actives.1 in
    let d = p.0.range.passives.1 in
    omega arith

pub bounds-s-queue_row : goal.bounds-s-queue_row
bounds-s-queue_row c =
    let p = c.requires in
    let l = send_below _ _ _ _ p.0 _ p.2 _ _ p.3 p.4 p.5 _
    c.queue_row-i.ensures
    c.if-s-i-eq0.false
    c.if-s-i-ne0.false
    c.may_leave.ensures (c.if-not-may_leave.false) _ c.packet_at-x.ensures
    _ c.in-Some.ensures.queue (some_queue p.0.range p.4 c.in-Some.ensures.below) in
    let e = c.queue_row.ensures in
    let z = p.1 in
    omega arith

pub returns : goal.returns
returns c =
    let p = c.requires in
    send_credit _ _ _ _ p.0 _ p.2 _ _ p.3 p.4 p.5 _
    c.queue_row-i.ensures
    c.if-s-i-eq0.false
    c.if-s-i-ne0.false
    c.may_leave.ensures (c.if-not-may_leave.false) _ c.packet_at-x.ensures
    _ c.in-Some.ensures.queue (some_queue p.0.range p.4 c.in-Some.ensures.below) _ c.queue_row.ensures
