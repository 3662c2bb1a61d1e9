use mathlib.Core.Path.{sym, ◌∙◌}
use Rattle.phase_execute.proofs.Tables.{slots_are}
use Rattle.phase_execute.proofs.Undoing.{in_small, in_room, out_room, steps_kept, steps_full, slot_asks, push_asks}
use Rattle.phase_execute.proofs.Undoing.{steps_tears}
use native.Mathlib.Omega.{arith}
use Rattle.phase_execute.proofs.undo.tear.Goals as goal

pub returns-then-not-is_unmarked : goal.returns-then-not-is_unmarked
returns-then-not-is_unmarked c =
    let p = c.requires in steps_kept p.0 p.1 (sym c.is_unmarked.ensures ∙ c.if-not-is_unmarked.true)

pub bounds-s-to : goal.bounds-s-to
bounds-s-to c =
    let p = c.requires in let q = out_room p.0 p.1 c.queue_row-to.ensures p.3 in omega arith

pub returns-then-h-s : goal.returns-then-h-s
returns-then-h-s c =
    let p = c.requires in steps_full p.0 p.1 c.queue_row-to.ensures c.if-h-s.true

pub overflow_add-at : goal.overflow_add-at
overflow_add-at c =
    let p = c.requires in let q = in_small p.0 p.1 p.2 in omega arith

pub put_packet-requires : goal.put_packet-requires
put_packet-requires c =
    let p = c.requires in let q = in_room p.0 p.1 p.2 p.3 in omega arith

pub tdown_of-requires : goal.tdown_of-requires
tdown_of-requires c =
    let p = c.requires in slot_asks p.0 p.1 p.3

pub push-requires : goal.push-requires
push-requires c =
    let p = c.requires in push_asks p.0 p.1 p.2 c.queue_row-to.ensures c.mark.ensures c.put_packet.ensures
    c.if-h-s.false p.3

pub returns : goal.returns
returns c =
    let p = c.requires in steps_tears p.0 p.1 p.2 c.queue_row-to.ensures (slots_are _ _ _)
    (sym c.is_unmarked.ensures ∙ c.if-not-is_unmarked.false) c.if-h-s.false c.mark.ensures c.put_packet.ensures
    c.tdown_of.ensures c.push.ensures
