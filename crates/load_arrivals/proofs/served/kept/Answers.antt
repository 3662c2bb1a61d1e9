use borrow.Author.Tests.{eq-eqb, ne_eqb}
use Rattle.load_arrivals.proofs.served.kept.Goals as goal

pub returns-then-met-eq0 : goal.returns-then-met-eq0
returns-then-met-eq0 c = rw (eq-eqb _ _ c.if-met-eq0.true)

pub returns-else-met-eq0 : goal.returns-else-met-eq0
returns-else-met-eq0 c = rw (ne_eqb _ _ c.if-met-eq0.false) c.without.ensures
