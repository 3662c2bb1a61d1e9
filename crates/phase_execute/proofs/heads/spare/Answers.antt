use Rattle.phase_execute.proofs.Booking.{spare_not, spare_is}
use Rattle.phase_execute.proofs.heads.spare.Goals as goal

pub returns-then-u-t : goal.returns-then-u-t
returns-then-u-t c = spare_not _ _ _ c.if-u-t.true

pub returns : goal.returns
returns c = spare_is _ _ _ _ c.if-u-t.false
