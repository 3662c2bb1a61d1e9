use mathlib.Core.Path.{refl}
use native.Mathlib.Omega.{arith}
use Rattle.check_choices.proofs.Picking.{pick_nobody, pick_none, pick_queue, pick_some}
use Rattle.check_choices.proofs.pick_ok.Goals as goal

pub returns-then-c-eq0 : goal.returns-then-c-eq0
returns-then-c-eq0 c =
    let p = c.requires in
    pick_nobody _ _ _ _ p.0 _ _ p.3 _ p.4 _ c.from-c.ensures c.if-c-eq0.true

pub returns-in_default : goal.returns-in_default
returns-in_default c =
    let p = c.requires in
    pick_none _ _ _ _ p.0 _ _ p.3 _ p.4 _ c.from-c.ensures c.if-c-eq0.false _ c.in_default.ensures.sender refl

pub may_send-requires : goal.may_send-requires
may_send-requires c =
    let p = c.requires in
    let l = c.in-Some.ensures.below in
    let q = pick_queue _ _ _ _ p.0 c.args.s.now _ p.3 _ p.4 _ c.from-c.ensures c.if-c-eq0.false _
    c.in-Some.ensures.sender (λ e. omega arith) in
    (p.0, p.1, p.2, p.3, q.0, q.1)

pub returns : goal.returns
returns c =
    let p = c.requires in
    let l = c.in-Some.ensures.below in
    pick_some _ _ _ _ p.0 _ _ p.3 _ p.4 _ c.from-c.ensures c.if-c-eq0.false _ c.in-Some.ensures.sender
    (λ e. omega arith) c.may_send.ensures
