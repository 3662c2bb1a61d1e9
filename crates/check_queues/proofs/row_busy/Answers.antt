use native.Mathlib.Omega.{arith}
use Rattle.bytes_rows.proofs.Codes.{flag_test}
use Rattle.check_queues.proofs.Turns.{code_frame, code_few, code_zeros, code_places}
use Rattle.check_queues.proofs.row_busy.Goals as goal

pub row_frame-requires : goal.row_frame-requires
row_frame-requires c =
    let p = c.requires in
    let r = p.0.lent.range in
    let n = p.1 in
    let l = p.2 in
    let q = c.queue_row-i.ensures in
    ((r.routers.1, r.actives.1, r.passives.1), omega arith)

pub returns-then-not-row_frame : goal.returns-then-not-row_frame
returns-then-not-row_frame c =
    let p = c.requires in
    let r = p.0 in
    code_frame _ _ _ r.lent.range _ _ p.1 _ _ _ c.queue_row-i.ensures p.3 p.4
    c.row_frame.ensures _ _ (c.if-not-row_frame.true)

pub overflow_sub-m : goal.overflow_sub-m
overflow_sub-m c =
    let p = c.requires in
    let r = p.0 in
    let f = code_few _ _ _ r.lent.range _ _ p.1 _ _ _
    c.queue_row-i.ensures p.3 p.4
    c.row_frame.ensures (c.if-not-row_frame.false) in
    let k = c.from-m.ensures in
    omega arith

pub zeros-requires : goal.zeros-requires
zeros-requires c =
    let p = c.requires in
    let r = p.0 in
    let f = code_few _ _ _ r.lent.range _ _ p.1 _ _ _
    c.queue_row-i.ensures p.3 p.4
    c.row_frame.ensures (c.if-not-row_frame.false) in
    let k = c.from-m.ensures in
    let n = p.1 in
    let l = p.2 in
    let q = c.queue_row-i.ensures in
    (omega arith, omega arith)

pub returns-then-not-zeros : goal.returns-then-not-zeros
returns-then-not-zeros c =
    let p = c.requires in
    let r = p.0 in
    code_zeros _ _ _ r.lent.range _ _ p.1 _ _ _ c.queue_row-i.ensures p.3 p.4
    c.row_frame.ensures _ _ (c.if-not-row_frame.false)
    c.from-m.ensures c.zeros.ensures (c.if-not-zeros.true)

pub places_ok-requires : goal.places_ok-requires
places_ok-requires c =
    let p = c.requires in
    let r = p.0 in
    let f = code_few _ _ _ r.lent.range _ _ p.1 _ _ _
    c.queue_row-i.ensures p.3 p.4
    c.row_frame.ensures (c.if-not-row_frame.false) in
    let k = c.from-m.ensures in
    let q = c.queue_row-i.ensures in
    let n = p.1 in
    let l = p.2 in
    (r, n, omega arith, omega arith)

pub returns : goal.returns
returns c =
    let p = c.requires in
    let r = p.0 in
    code_places _ _ _ r.lent.range _ _ p.1 _ _ _ c.queue_row-i.ensures p.3 p.4
    c.row_frame.ensures _ _ (c.if-not-row_frame.false) c.from-m.ensures c.zeros.ensures (c.if-not-zeros.false)
    (flag_test _) c.places_ok.ensures
