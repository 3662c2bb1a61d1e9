use Rattle.phase_pick.proofs.Tables.{range_of}
use Rattle.phase_pick.proofs.Choosing.{turn_found, turn_again}
use Rattle.phase_pick.proofs.Asked.{output_asks, turn_room, turn_tells}
use Rattle.phase_pick.proofs.turn.Goals as goal

pub turn_row-requires : goal.turn_row-requires
turn_row-requires c = let p = c.requires in output_asks p.0 p.2

pub bounds-s-turn_row : goal.bounds-s-turn_row
bounds-s-turn_row c =
    let p = c.requires in turn_room p.0 p.2.drives c.turn_row.ensures p.3

pub returns-then-v-ne0 : goal.returns-then-v-ne0
returns-then-v-ne0 c =
    let p = c.requires in
    turn_found p.0.wired (range_of p.0) _
    (turn_tells p.0 p.2.drives c.turn_row.ensures
    c.from-last.ensures)
    c.first-v.ensures c.if-v-ne0.true

pub returns : goal.returns
returns c =
    let p = c.requires in
    turn_again p.0.wired (range_of p.0) _
    (turn_tells p.0 p.2.drives c.turn_row.ensures
    c.from-last.ensures)
    c.first-v.ensures c.if-v-ne0.false c.first.ensures
