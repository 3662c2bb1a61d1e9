use Rattle.phase_pick.proofs.Tables.{range_of}
use Rattle.phase_pick.proofs.Choosing.{steps_picked}
use Rattle.phase_pick.proofs.Asked.{output_asks, choice_small, choice_row, choice_room}
use native.Mathlib.Omega.{arith}
use Rattle.phase_pick.proofs.pick.Goals as goal

pub output_row-at-requires : goal.output_row-at-requires
output_row-at-requires c = let p = c.requires in output_asks p.0 p.2

pub overflow_add-s : goal.overflow_add-s
overflow_add-s c =
    let p = c.requires in let q = choice_small p.0 p.2 c.output_row-at.ensures in
    omega arith

pub bounds-s-at : goal.bounds-s-at
bounds-s-at c =
    let p = c.requires in choice_room p.0 p.2.drives c.output_row-at.ensures p.3

pub returns : goal.returns
returns c =
    let p = c.requires in steps_picked p.0.wired (range_of p.0) _ p.2.drives
    (choice_row p.0 p.2.drives c.output_row-at.ensures) c.turn-v.ensures
