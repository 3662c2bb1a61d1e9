use borrow.Author.Tests.{ne_eqb}
use Rattle.check_wires.proofs.Stretches.{blank_not, blank_is}
use Rattle.check_wires.proofs.blank.Goals as goal

pub returns-then-four-eq0 : goal.returns-then-four-eq0
returns-then-four-eq0 c =
    blank_is _ _ _ c.requires.1 _ _ c.four.ensures c.if-four-eq0.true c.four-then-four-eq0.ensures

pub returns-else-four-eq0 : goal.returns-else-four-eq0
returns-else-four-eq0 c =
    rw (ne_eqb _ _ c.if-four-eq0.false) (blank_not _ _ _ c.requires.1 _ c.four.ensures c.if-four-eq0.false)
