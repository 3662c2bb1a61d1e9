use mathlib.Core.Path.{refl}
use Rattle.std.proofs.Common.{rules}
use Rattle.phase_execute.specs.Lent.{entries_at, spares}
use Rattle.phase_execute.proofs.AnySlot.{tests_any}
use Rattle.phase_execute.proofs.Booking.{not_free, slot_booked, slot_free, other_spare}
use Rattle.phase_execute.proofs.heads.may_book.Goals as goal

pub returns-then-s-at-ne0 : goal.returns-then-s-at-ne0
returns-then-s-at-ne0 c = not_free _ _ _ (slot_booked _ _ _ c.if-s-at-ne0.true)

pub returns : goal.returns
returns c =
    other_spare _ _ _ (slot_free _ _ _ c.if-s-at-ne0.false)
    (tests_any refl (spares (entries_at c.args.at c.args.s.now) c.args.t) _ c.any.ensures.runs
    (λ x b q h. search rules))
