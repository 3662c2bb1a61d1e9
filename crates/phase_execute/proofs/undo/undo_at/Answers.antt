use Rattle.phase_pick.proofs.Steps.{steps_by, holds_by}
use Rattle.phase_execute.proofs.Undoing.{in_row, in_room, steps_none, starts_by}
use native.Mathlib.Omega.{arith}
use Rattle.phase_execute.proofs.undo.undo_at.Goals as goal

pub bounds-s-at : goal.bounds-s-at
bounds-s-at c =
    let p = c.requires in let q = in_room p.0 p.1 (in_row p.0 p.1 c.base_of.ensures.0 c.queue_row-at.ensures) p.2 in
    omega arith

pub returns-then-s-at-eq0 : goal.returns-then-s-at-eq0
returns-then-s-at-eq0 c =
    let p = c.requires in steps_none p.0 p.1 (in_row p.0 p.1 c.base_of.ensures.0 c.queue_row-at.ensures)
    c.if-s-at-eq0.true

pub packet_at-x-requires : goal.packet_at-x-requires
packet_at-x-requires c =
    let p = c.requires in let q = in_room p.0 p.1 (in_row p.0 p.1 c.base_of.ensures.0 c.queue_row-at.ensures) p.2 in
    omega arith

pub tear-requires : goal.tear-requires
tear-requires c =
    let p = c.requires in let e = in_row p.0 p.1 c.base_of.ensures.0 c.queue_row-at.ensures in (
      p.0,
      p.1,
      e,
      holds_by _ (starts_by p.0 p.1 e c.if-s-at-eq0.false c.packet_at-x.ensures) p.2,
    )

pub returns : goal.returns
returns c =
    let p = c.requires in steps_by
    _ (starts_by p.0 p.1 (in_row p.0 p.1 c.base_of.ensures.0 c.queue_row-at.ensures) c.if-s-at-eq0.false
    c.packet_at-x.ensures) c.tear.ensures
