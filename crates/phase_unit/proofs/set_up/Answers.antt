use borrow.Author.Tests.{eq-eqb, ne_eqb}
use Rattle.phase_unit.proofs.set_up.Goals as goal

pub returns-then-may-eq0 : goal.returns-then-may-eq0
unfolding Rattle.phase_unit.specs.Handled.set_up
returns-then-may-eq0 c = rw (eq-eqb _ _ c.if-may-eq0.true) c.decline.ensures

pub returns : goal.returns
unfolding Rattle.phase_unit.specs.Handled.set_up
returns c = rw (ne_eqb _ _ c.if-may-eq0.false) c.book.ensures
