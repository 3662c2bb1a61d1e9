use native.Mathlib.Omega.{arith}
use mathlib.Core.Path.{sym, ◌∙◌}
use Rattle.check_queues.proofs.Turns.{place_kind, place_numbers, place_misfit, place_done}
use Rattle.check_queues.proofs.Turns.{numbers_ok, asking, active_few, queues_few}
use Rattle.check_queues.proofs.place_ok.Goals as goal

pub returns-then-from-s : goal.returns-then-from-s
returns-then-from-s c = place_kind _ _ _ _ _ _ _ _ (omega (arith, c.from.ensures, c.if-from-s.true))

pub returns-then-not-packet_ok : goal.returns-then-not-packet_ok
returns-then-not-packet_ok c =
    place_numbers _ _ _ _ _ _ _ _ (omega (arith, c.from.ensures, c.if-from-s.false))
    (rw c.packet_at-x.ensures at
    (c.packet_ok.ensures _ _ _ _ c.requires.0.lent))
    (c.if-not-packet_ok.true)

pub overflow_add-h : goal.overflow_add-h
overflow_add-h c =
    let f = queues_few c.requires.0.lent.range in
    omega arith

pub overflow_mul-h : goal.overflow_mul-h
overflow_mul-h c =
    let f = queues_few c.requires.0.lent.range in
    omega arith

pub fits-requires : goal.fits-requires
fits-requires c =
    let r = c.requires.0 in
    let e = sym (c.packet_ok.ensures _ _ _ _ r.lent) ∙ c.if-not-packet_ok.false in
    (_, asking r _ e)

pub returns-then-not-fits : goal.returns-then-not-fits
returns-then-not-fits c =
    let r = c.requires.0 in
    let e = sym (c.packet_ok.ensures _ _ _ _
    r.lent) ∙ c.if-not-packet_ok.false in
    place_misfit _ _ _ _ _ _ _ _ (omega (arith, c.from.ensures, c.if-from-s.false))
    (rw c.packet_at-x.ensures at
    (c.packet_ok.ensures _ _ _ _ r.lent))
    (c.if-not-packet_ok.false)
    (rw (
      c.of_head-first.ensures,
      c.packet_at-x.ensures,
    ) at
    (c.fits.ensures _ (asking r _ e))) (c.if-not-fits.true)

pub tally-requires : goal.tally-requires
tally-requires c =
    let r = c.requires.0 in
    let e = sym (c.packet_ok.ensures _ _ _ _ r.lent) ∙ c.if-not-packet_ok.false in
    active_few _ _ _ r.lent.range _ (numbers_ok _ _ _ e)

pub returns : goal.returns
returns c =
    let r = c.requires.0 in
    let e = sym (c.packet_ok.ensures _ _ _ _
    r.lent) ∙ c.if-not-packet_ok.false in
    place_done _ _ _ _ _ _ _ _
    (omega (arith, c.from.ensures, c.if-from-s.false))
    (rw c.packet_at-x.ensures at
    (c.packet_ok.ensures _ _ _ _ r.lent))
    (c.if-not-packet_ok.false)
    (rw (
      c.of_head-first.ensures,
      c.packet_at-x.ensures,
    ) at
    (c.fits.ensures _ (asking r _ e))) (c.if-not-fits.false)
    (rw c.packet_at-x.ensures at
    (active_few _ _ _ r.lent.range _ (numbers_ok _ _ _ e)))
    (rw c.packet_at-x.ensures at
    c.tally.ensures)
