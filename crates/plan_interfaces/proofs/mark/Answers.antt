use Rattle.plan.specs.Found.{mark_of}
use borrow.Author.Tests.{eq-eqb, ne_eqb}
use Rattle.plan_interfaces.proofs.mark.Goals as goal

pub returns-then-cell-eq-NONE_FOUND : goal.returns-then-cell-eq-NONE_FOUND
unfolding mark_of
returns-then-cell-eq-NONE_FOUND c = simp (eq-eqb _ _ c.if-cell-eq-NONE_FOUND.true)

pub returns-else-cell-eq-NONE_FOUND : goal.returns-else-cell-eq-NONE_FOUND
unfolding mark_of
returns-else-cell-eq-NONE_FOUND c = simp (ne_eqb _ _ c.if-cell-eq-NONE_FOUND.false)
