use mathlib.Core.Path.{sym, ◌∙◌}
use native.Mathlib.Omega.{arith}
use Rattle.phase_pick.proofs.Tables.{entry_is, range_of, is_router}
use Rattle.phase_execute.proofs.Tables.{slots_are}
use Rattle.phase_execute.proofs.Units.{steps_booked, steps_declined}
use Rattle.phase_execute.proofs.Needs.{near_small, side_asks, side_is, first_asks}
use Rattle.phase_execute.proofs.Needs.{book_asks, write_inside, settles_booked, settles_now}
use Rattle.phase_execute.proofs.heads.set_up.Goals as goal

pub side_of-o-requires : goal.side_of-o-requires
side_of-o-requires c =
    let p = c.requires in side_asks p.0 p.1 p.2 p.5

pub entry_row-near-requires : goal.entry_row-near-requires
entry_row-near-requires c =
    let p = c.requires in first_asks p.0 p.1 p.2 p.5 c.side_of-o.ensures

pub may_book-requires : goal.may_book-requires
may_book-requires c =
    let p = c.requires in
    let out = c.side_of-o.ensures in
    let near = c.entry_row-near.ensures in
    let slot = c.from-slot.ensures in
    let slots = c.from.ensures in
    book_asks p.0 p.1 p.2 p.5 out near slot slots

pub overflow_add-s-then-may_book : goal.overflow_add-s-then-may_book
overflow_add-s-then-may_book c =
    let p = c.requires in
    let out = c.side_of-o.ensures in
    let near = c.entry_row-near.ensures in
    let slot = c.from-slot.ensures in
    let n = near_small p.0 p.1 p.2 p.5 out near slot in
    omega arith

pub bounds-s-near : goal.bounds-s-near
bounds-s-near c =
    let p = c.requires in
    let out = c.side_of-o.ensures in
    let near = c.entry_row-near.ensures in
    let slot = c.from-slot.ensures in
    let slots = c.from.ensures in
    write_inside p.0 p.1 p.2 p.5 out _ _ _ (book_asks p.0 p.1 p.2 p.5 out near slot slots)

pub settle-requires : goal.settle-requires
settle-requires c =
    let p = c.requires in
    let out = c.side_of-o.ensures in
    let near = c.entry_row-near.ensures in
    let slot = c.from-slot.ensures in
    settles_booked p.0 p.1 p.2 p.5 out _ p.4 near slot

pub settle-requires-else-may_book : goal.settle-requires-else-may_book
settle-requires-else-may_book c =
    let p = c.requires in settles_now p.0 p.1
    p.2 p.5 p.4

pub returns-then-may_book : goal.returns-then-may_book
returns-then-may_book c =
    let p = c.requires in
    let out = c.side_of-o.ensures in
    let near = c.entry_row-near.ensures in
    let slot = c.from-slot.ensures in
    let slots = c.from.ensures in
    steps_booked p.0.wired (range_of p.0) _ _ (is_router p.0 p.1, p.2) _ p.4
    (side_is p.0 p.1 p.2 p.5 out) (entry_is _ _ _ _ _ _ near) slot (slots_are _ _ _) slots p.3
    (sym c.may_book.ensures ∙ c.if-may_book.true)
    c.settle.ensures

pub returns-else-may_book : goal.returns-else-may_book
returns-else-may_book c =
    let p = c.requires in
    let out = c.side_of-o.ensures in
    let near = c.entry_row-near.ensures in
    let slot = c.from-slot.ensures in
    let slots = c.from.ensures in
    steps_declined p.0.wired (range_of p.0) _ _ (is_router p.0 p.1, p.2) _ p.4
    (side_is p.0 p.1 p.2 p.5 out) (entry_is _ _ _ _ _ _ near) slot (slots_are _ _ _) slots p.3
    (sym c.may_book.ensures ∙ c.if-may_book.false)
    c.settle-else-may_book.ensures
