use Prim.Native.Nat.{ℕ, ◌+◌}
use mathlib.Core.Path.{refl, ap}
use Rattle.phase_pick.proofs.Tables.{range_of}
use Rattle.phase_pick.proofs.Choosing.{steps_idle}
use Rattle.phase_pick.proofs.Asked.{side_rows, side_sends, idle_rows, holds_open, steps_open, slot_small}
use Rattle.phase_pick.proofs.Asked.{side_asks, side_room, side_open, side_shut}
use native.Mathlib.Omega.{arith}
use Rattle.phase_pick.proofs.side.Goals as goal

pub side_idle-requires : goal.side_idle-requires
side_idle-requires c =
    let p = c.requires in side_rows p.0 p.1 p.2 c.base_of.ensures.0 c.queue_row.ensures p.3

pub returns-then-side_idle : goal.returns-then-side_idle
returns-then-side_idle c =
    let p = c.requires in steps_idle p.0.wired (range_of p.0) _ _ _
    (side_sends p.0 p.1 p.2 c.base_of.ensures.0 refl) (idle_rows c.args.s.now _ c.queue_row.ensures
    (c.side_idle.ensures c.if-side_idle.true))

pub bounds-s-1 : goal.bounds-s-1
bounds-s-1 c =
    let p = c.requires in let q = (side_rows p.0 p.1 p.2 c.base_of.ensures.0 c.queue_row.ensures p.3).0 in omega arith

pub entry_row-requires : goal.entry_row-requires
entry_row-requires c =
    let p = c.requires in side_asks p.0 p.1 p.2 p.3 c.from-slot.ensures

pub bounds-s-entry_row : goal.bounds-s-entry_row
bounds-s-entry_row c =
    let p = c.requires in side_room p.0
    p.1 p.2 p.3 c.from-slot.ensures c.entry_row.ensures

pub returns-then-s-entry_row-ne0 : goal.returns-then-s-entry_row-ne0
returns-then-s-entry_row-ne0 c =
    let p = c.requires in side_shut
    p.0 p.1 p.2 (slot_small p.0 p.1 _ p.3 c.from-slot.ensures) c.from-slot.ensures c.entry_row.ensures
    c.if-s-entry_row-ne0.true

pub pick-requires : goal.pick-requires
pick-requires c =
    let p = c.requires in (
      p.0,
      omega arith,
      side_sends p.0 p.1 p.2 c.base_of.ensures.0 c.first_of.ensures.0,
      holds_open p.0
          (ap (λ (k : ℕ). k + c.args.o) c.first_of.ensures.0) (side_open p.0 p.1 p.2
          (slot_small p.0 p.1 _ p.3 c.from-slot.ensures) c.from-slot.ensures c.entry_row.ensures
          c.if-s-entry_row-ne0.false)
          p.3,
    )

pub returns : goal.returns
returns c =
    let p = c.requires in steps_open p.0 (ap (λ (k : ℕ). k + c.args.o) c.first_of.ensures.0)
    (side_open p.0 p.1 p.2 (slot_small p.0 p.1 _ p.3
    c.from-slot.ensures) c.from-slot.ensures c.entry_row.ensures c.if-s-entry_row-ne0.false) c.pick.ensures
