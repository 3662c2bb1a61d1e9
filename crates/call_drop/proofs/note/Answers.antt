use Rattle.call_drop.proofs.Steps.{note_made, note_none}
use Rattle.call_drop.proofs.note.Goals as goal

pub returns-then-not-is_ack : goal.returns-then-not-is_ack
returns-then-not-is_ack c = note_none _ _ _ c.is_ack.ensures (c.if-not-is_ack.true)

pub returns : goal.returns
returns c =
    note_made c.args.h c.args.x _ c.is_ack.ensures
    (c.if-not-is_ack.false)
    c.from.ensures c.from-2.ensures c.starts-at.ensures
    c.start_slot-t.ensures c.join.ensures
