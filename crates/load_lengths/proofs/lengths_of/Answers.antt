use Rattle.std.proofs.Common.{arith, sym, refl, ◌∙◌, ◌<◌, length}
use Rattle.std.proofs.lemmas.List.{set-append_left, take-append-drop}
use Rattle.basis.specs.Fold.{up_none, up_fill}
use Rattle.load_arrivals.proofs.Steps.{length_step, lengths_done}
use Rattle.load_lengths.proofs.Rows.{row_below, rows_end}
use Rattle.load_lengths.proofs.lengths_of.Goals as goal

pub overflow_add-n : goal.overflow_add-n
overflow_add-n c = let m = c.requires.0 in record { fits = omega (arith, m.1, m.2) }

pub far_of-far-requires : goal.far_of-far-requires
far_of-far-requires c = c.requires.0

pub loop-a-init : goal.loop-a-init
loop-a-init c = take-append-drop c.args.h.actives c.args.t.now ∙ up_none _ _

pub port-x-requires : goal.port-x-requires
port-x-requires c =
    let m = c.requires.0 in
    let below : c.loop-a.a < c.args.h.actives = row_below c.requires.2 m.1 c.loop-a-test.true in
    (omega (arith, below), omega (arith, m.1, m.2), c.requires.1)

pub offset_bounds-served-a : goal.offset_bounds-served-a
offset_bounds-served-a c =
    let m = c.requires.0.1 in
    let below : c.loop-a.a < c.args.h.actives = row_below c.requires.2 m c.loop-a-test.true in
    record { fits = omega (arith, below) }

pub bounds-served-a : goal.bounds-served-a
bounds-served-a c =
    let m = c.requires.0.1 in
    let below : c.loop-a.a < c.args.h.actives = row_below c.requires.2 m c.loop-a-test.true in
    omega (arith, below)

pub offset_bounds-arrive-x : goal.offset_bounds-arrive-x
offset_bounds-arrive-x c = record { fits = omega (arith, c.port-x.ensures.1) }

pub bounds-arrive-x : goal.bounds-arrive-x
bounds-arrive-x c = omega (arith, c.port-x.ensures.1)

pub length_row-requires : goal.length_row-requires
length_row-requires c = c.requires.0.1

pub loop-a-preserved : goal.loop-a-preserved
loop-a-preserved c =
    let at = c.loop-a in
    let here : at.a < length at.row-items = omega (arith, at.auto.row-items) in
    sym (set-append_left at.row-items _ at.a _ here)
    ∙ up_fill _ _ _ at.invariant
    (length_step c.args.z.now
    c.args.arrive.now
    c.args.served.now
    c.args.homes.now
    at.a
    c.args.h.actives
    c.far_of-far.result
    c.port-x.ensures.0 c.both.ensures (c.length_row.ensures _ _ refl))

pub returns : goal.returns
returns c =
    lengths_done _ _ _ _ _ _ c.requires.2 c.far_of-far.ensures c.loop-a.invariant
    (rows_end c.requires.2 c.requires.0.1 c.loop-a-test.false c.loop-a.auto.a-end)
