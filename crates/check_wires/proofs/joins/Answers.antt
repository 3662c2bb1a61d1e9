use Rattle.check_queues.proofs.Turns.{queues_few}
use Rattle.next_queue.proofs.Numbered.{port_few}
use Rattle.check_wires.proofs.Carrying.{not_carried, ready_wiring, ready_counts, unfit, asked, numbers, active_few}
use Rattle.check_wires.proofs.Carrying.{not_none, passive_few, nowhere, in_queues, in_table, misfit, carried}
use mathlib.Core.Path.{refl}
use native.Mathlib.Omega.{arith}
use Rattle.check_wires.proofs.joins.Goals as goal

pub packet_ok-requires : goal.packet_ok-requires
packet_ok-requires c = c.requires.0.lent.range

pub returns-then-not-packet_ok : goal.returns-then-not-packet_ok
returns-then-not-packet_ok c =
    let p = c.requires in
    not_carried _ _ _ _ _ _ _ (unfit p.0 _ (c.packet_ok.ensures _ _ _ _ p.0.lent) _ (c.if-not-packet_ok.true))

pub at_unit-q-requires : goal.at_unit-q-requires
at_unit-q-requires c =
    let p = c.requires in
    let e = c.packet_ok.ensures _ _ _ _ p.0.lent in
    let f = c.if-not-packet_ok.false in
    let r = numbers p.0 _ e f in (
      ready_counts p.0,
      p.1,
      active_few p.0 _ e f,
      passive_few p.0 _ e f,
      port_few _ _ _ _ (ready_wiring p.0) _ (omega arith),
    )

pub next-requires : goal.next-requires
next-requires c =
    let p = c.requires in
    let e = c.packet_ok.ensures _ _ _ _ p.0.lent in
    let f = c.if-not-packet_ok.false in
    let r = numbers p.0 _ e f in
    (ready_wiring p.0, p.1, r.0, r.1, c.at_unit-q.ensures.queue _ _ _ _ (asked p.0 _ e f))

pub returns-in_default : goal.returns-in_default
returns-in_default c =
    let p = c.requires in
    not_carried _ _ _ _ _ _ _ (nowhere p.0 _ (c.packet_ok.ensures _ _ _ _
    p.0.lent)
    (c.if-not-packet_ok.false) _ _ c.in_default.ensures.queue refl)

pub overflow_add-h : goal.overflow_add-h
overflow_add-h c =
    let f = queues_few c.requires.0.lent.range in
    omega arith

pub overflow_mul-h : goal.overflow_mul-h
overflow_mul-h c =
    let f = queues_few c.requires.0.lent.range in
    omega arith

pub fits-requires : goal.fits-requires
fits-requires c =
    let p = c.requires in
    let e = c.packet_ok.ensures _ _ _ _ p.0.lent in
    let f = c.if-not-packet_ok.false in
    (_, asked p.0 _ e f)

pub returns-then-not-fits : goal.returns-then-not-fits
returns-then-not-fits c =
    let p = c.requires in
    let e = c.packet_ok.ensures _ _ _ _
    p.0.lent in
    let f = c.if-not-packet_ok.false in
    not_carried _ _ _ _ _ _ _
    (misfit p.0 _ e f _ _ c.in-Some.ensures.queue
    (not_none (c.in-Some.ensures.below c.at_unit-q.ensures.below)) (c.fits.ensures _ (asked p.0 _ e f))
    (c.if-not-fits.true))

pub bounds-coming-n : goal.bounds-coming-n
bounds-coming-n c =
    let p = c.requires in
    let e = c.packet_ok.ensures _ _ _ _
    p.0.lent in
    let f = c.if-not-packet_ok.false in
    in_table p.0 _ e f _ _ c.in-Some.ensures.queue (not_none (c.in-Some.ensures.below c.at_unit-q.ensures.below))

pub overflow_add-coming : goal.overflow_add-coming
overflow_add-coming c =
    let p = c.requires in
    let e = c.packet_ok.ensures _ _ _ _
    p.0.lent in
    let f = c.if-not-packet_ok.false in
    let l = in_queues p.0 _ e f _ _ c.in-Some.ensures.queue
    (not_none (c.in-Some.ensures.below c.at_unit-q.ensures.below)) in
    let k = p.2 _ l in
    let m = p.1 in
    let r = p.0.lent.range in
    let a = r.routers.1 in
    let b = r.actives.1 in
    let d = r.passives.1 in
    omega arith

pub bounds-coming-n-2 : goal.bounds-coming-n-2
bounds-coming-n-2 c =
    let p = c.requires in
    let e = c.packet_ok.ensures _ _ _ _
    p.0.lent in
    let f = c.if-not-packet_ok.false in
    in_table p.0 _ e f _ _ c.in-Some.ensures.queue (not_none (c.in-Some.ensures.below c.at_unit-q.ensures.below))

pub tally-requires : goal.tally-requires
tally-requires c =
    let p = c.requires in
    let e = c.packet_ok.ensures _ _ _
    _
    p.0.lent in
    let f = c.if-not-packet_ok.false in
    active_few p.0 _ e f

pub returns : goal.returns
returns c =
    let p = c.requires in
    let e = c.packet_ok.ensures
    _ _ _ _ p.0.lent in
    let f = c.if-not-packet_ok.false
    in
    carried p.0 _ e f _ _ c.in-Some.ensures.queue (not_none (c.in-Some.ensures.below c.at_unit-q.ensures.below))
    (c.fits.ensures _ (asked p.0 _ e f))
    (c.if-not-fits.false) _ _ c.tally.ensures
