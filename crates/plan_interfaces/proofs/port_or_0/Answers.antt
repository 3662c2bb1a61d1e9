use Rattle.plan.specs.Found.{port_of_cell}
use borrow.Author.Tests.{lt-ltb, le-ltb}
use Rattle.plan_interfaces.proofs.port_or_0.Goals as goal

pub returns-then-cell-lt-NONE_FOUND : goal.returns-then-cell-lt-NONE_FOUND
unfolding port_of_cell
returns-then-cell-lt-NONE_FOUND c = simp (lt-ltb _ _ c.if-cell-lt-NONE_FOUND.true)

pub returns-else-cell-lt-NONE_FOUND : goal.returns-else-cell-lt-NONE_FOUND
unfolding port_of_cell
returns-else-cell-lt-NONE_FOUND c = simp (le-ltb _ _ c.if-cell-lt-NONE_FOUND.false)
