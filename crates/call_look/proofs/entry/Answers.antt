use native.Mathlib.Omega.{arith}
use Rattle.call_common.proofs.Rows.{slot_few, entry_inside}
use Rattle.call_look.proofs.Exits.{entry_router, entry_side, entry_slot, entry_held}
use Rattle.call_look.proofs.entry.Goals as goal

pub returns-then-h-router : goal.returns-then-h-router
returns-then-h-router c = entry_router _ _ _ _ _ c.if-h-router.true

pub returns-then-side-ge4 : goal.returns-then-side-ge4
returns-then-side-ge4 c = entry_side _ _ _ _ _ c.if-h-router.false (omega (arith, c.if-side-ge4.true))

pub returns-then-from-slot : goal.returns-then-from-slot
returns-then-from-slot c =
    entry_slot _ _ _ _ _ c.if-h-router.false (omega (arith, c.if-side-ge4.false))
    (omega (arith, c.from.ensures))

pub entry_at-x-requires : goal.entry_at-x-requires
entry_at-x-requires c =
    let slot = slot_few c.args.slot c.requires.0 (omega (arith, c.from.ensures)) in
    entry_inside c.requires.1 _ _ _ _ c.if-h-router.false
    (omega (arith, c.if-side-ge4.false)) (omega (arith, slot)) c.entry_row-i.ensures

pub returns : goal.returns
returns c =
    entry_held _ _ _ _ _ c.if-h-router.false (omega (arith, c.if-side-ge4.false))
    c.requires.0 (omega (arith, c.from.ensures)) _ _
    c.entry_row-i.ensures c.entry_at-x.ensures
