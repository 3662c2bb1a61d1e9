use borrow.Author.Tests.{eq-eqb, ne_eqb}
use Rattle.phase_execute.proofs.heads.put_back.Goals as goal

pub returns-then-q-eq0 : goal.returns-then-q-eq0
unfolding Rattle.phase_execute.specs.Lent.put_back
returns-then-q-eq0 c =
    rw (eq-eqb _ _ c.if-q-eq0.true, c.put_packet.ensures)

pub returns-else-q-eq0 : goal.returns-else-q-eq0
unfolding Rattle.phase_execute.specs.Lent.put_back
returns-else-q-eq0 c = rw (ne_eqb _ _ c.if-q-eq0.false, c.pop.ensures)
