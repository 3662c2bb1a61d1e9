use Rattle.phase_pick.proofs.Tables.{range_of}
use Rattle.phase_execute.proofs.Tables.{unit_at}
use Rattle.phase_pick.proofs.Steps.{steps_by, holds_by}
use Rattle.phase_execute.proofs.Units.{steps_empty, steps_marked, heads_by, steps_ack, steps_nack}
use Rattle.phase_pick.proofs.Tables.{is_router}
use Rattle.phase_execute.proofs.Needs.{unit_room}
use native.Mathlib.Omega.{arith}
use Rattle.phase_execute.proofs.heads.unit_at.Goals as goal

pub bounds-s-at : goal.bounds-s-at
bounds-s-at c =
    let p = c.requires in let q = unit_room p.0 p.1 p.2 (unit_at _ _ _ _ _
    c.base_of.ensures.0 c.queue_row-at.ensures) p.3 in omega arith

pub returns-then-s-at-eq0 : goal.returns-then-s-at-eq0
returns-then-s-at-eq0 c =
    let p = c.requires in steps_empty p.0.wired (range_of p.0) _ _ (
      is_router
          p.0 p.1,
      p.2,
    )
    (unit_at _ _ _ _ _ c.base_of.ensures.0 c.queue_row-at.ensures) c.if-s-at-eq0.true

pub returns-then-s-at-ne0 : goal.returns-then-s-at-ne0
returns-then-s-at-ne0 c =
    let p = c.requires in steps_marked p.0.wired (range_of
    p.0) _ _ (is_router p.0 p.1, p.2) (unit_at _ _ _ _ _
    c.base_of.ensures.0
    c.queue_row-at.ensures) c.if-s-at-ne0.true

pub packet_at-x-requires : goal.packet_at-x-requires
packet_at-x-requires c =
    let p = c.requires in let q = unit_room p.0 p.1
    p.2
    (unit_at _ _ _ _ _ c.base_of.ensures.0 c.queue_row-at.ensures) p.3 in omega arith

pub set_up-requires : goal.set_up-requires
set_up-requires c =
    let p = c.requires in (
      p.0,
      p.1,
      p.2,
      c.in-Setup.is,
      (unit_at _ _ _ _ _ c.base_of.ensures.0 c.queue_row-at.ensures),
      holds_by _ (heads_by p.0.wired (range_of p.0) _ _ (is_router p.0 p.1, p.2) (unit_at _ _ _ _ _
          c.base_of.ensures.0 c.queue_row-at.ensures)
          c.if-s-at-eq0.false c.if-s-at-ne0.false c.packet_at-x.ensures) p.3,
    )

pub tear_down-requires : goal.tear_down-requires
tear_down-requires c =
    let p = c.requires in (
      p.0,
      p.1,
      p.2,
      c.in-Tdown.is,
      (unit_at _ _ _ _ _ c.base_of.ensures.0 c.queue_row-at.ensures),
      holds_by _ (heads_by p.0.wired (range_of p.0) _ _ (is_router p.0 p.1, p.2) (unit_at _ _ _ _ _
          c.base_of.ensures.0 c.queue_row-at.ensures)
          c.if-s-at-eq0.false c.if-s-at-ne0.false c.packet_at-x.ensures) p.3,
    )

pub returns-in-Setup : goal.returns-in-Setup
returns-in-Setup c =
    let p = c.requires in steps_by _ (heads_by p.0.wired (range_of p.0) _ _ (is_router p.0 p.1, p.2)
    (unit_at _ _ _ _ _ c.base_of.ensures.0 c.queue_row-at.ensures) c.if-s-at-eq0.false c.if-s-at-ne0.false
    c.packet_at-x.ensures) c.set_up.ensures

pub returns-in-Tdown : goal.returns-in-Tdown
returns-in-Tdown c =
    let p = c.requires in steps_by _ (heads_by p.0.wired (range_of p.0) _ _ (is_router p.0 p.1, p.2)
    (unit_at _ _ _ _ _ c.base_of.ensures.0 c.queue_row-at.ensures) c.if-s-at-eq0.false c.if-s-at-ne0.false
    c.packet_at-x.ensures) c.tear_down.ensures

pub returns-in-Ack : goal.returns-in-Ack
returns-in-Ack c =
    let p = c.requires in steps_by
    _ (heads_by p.0.wired (range_of p.0) _ _ (is_router p.0 p.1, p.2) (unit_at _ _ _ _ _
    c.base_of.ensures.0 c.queue_row-at.ensures) c.if-s-at-eq0.false c.if-s-at-ne0.false c.packet_at-x.ensures)
    (steps_ack p.0.wired
    (range_of p.0) _ _ (is_router p.0 p.1, p.2) _ c.in-Ack.is)

pub returns-in-Nack : goal.returns-in-Nack
returns-in-Nack c =
    let p = c.requires in steps_by
    _ (heads_by p.0.wired (range_of p.0) _ _ (is_router p.0 p.1, p.2) (unit_at _ _ _ _ _
    c.base_of.ensures.0 c.queue_row-at.ensures) c.if-s-at-eq0.false c.if-s-at-ne0.false c.packet_at-x.ensures)
    (steps_nack p.0.wired
    (range_of p.0) _ _ (is_router p.0 p.1, p.2) _ c.in-Nack.is)
