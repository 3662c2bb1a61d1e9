use mathlib.Core.Path.{refl}
use Rattle.phase_pick.proofs.Tables.{range_of}
use Rattle.phase_pick.proofs.Choosing.{steps_idle}
use Rattle.phase_pick.proofs.Asked.{interface_room, interface_sends, idle_row, holds_open, steps_open}
use Rattle.phase_pick.proofs.Asked.{interface_open}
use native.Mathlib.Omega.{arith}
use Rattle.phase_pick.proofs.interface.Goals as goal

pub bounds-s-at : goal.bounds-s-at
bounds-s-at c =
    let p = c.requires in let q = interface_room p.0 p.1 c.queue_row-at.ensures p.2 in omega arith

pub returns-then-s-at-eq0 : goal.returns-then-s-at-eq0
returns-then-s-at-eq0 c =
    let p = c.requires in steps_idle p.0.wired (range_of p.0) _ _ _ (interface_sends
    p.0 _ p.1) (idle_row c.args.s.now _ c.queue_row-at.ensures c.if-s-at-eq0.true)

pub pick-requires : goal.pick-requires
pick-requires c =
    let p = c.requires in (
      p.0,
      omega arith,
      interface_sends p.0 _ p.1,
      holds_open p.0 refl (interface_open p.0 p.1) p.2,
    )

pub returns : goal.returns
returns c =
    let p = c.requires in steps_open p.0 refl
    (interface_open p.0 p.1) c.pick.ensures
