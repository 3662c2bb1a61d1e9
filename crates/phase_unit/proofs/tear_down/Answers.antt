use borrow.Author.Tests.{eq-eqb, ne_eqb}
use Rattle.phase_unit.proofs.tear_down.Goals as goal

pub returns-then-x-eq1 : goal.returns-then-x-eq1
unfolding Rattle.phase_unit.specs.Handled.torn
returns-then-x-eq1 c = rw (eq-eqb _ _ c.if-x-eq1.true)

pub returns : goal.returns
unfolding Rattle.phase_unit.specs.Handled.torn
returns c = rw (ne_eqb _ _ c.if-x-eq1.false) (rw c.free.ensures at c.stay.ensures)
