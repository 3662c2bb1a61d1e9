use borrow.Author.Tests.{eq-eqb, ne_eqb}
use Rattle.call_reply.proofs.answer_kind.Goals as goal

pub returns-then-choice-eq1 : goal.returns-then-choice-eq1
returns-then-choice-eq1 c = simp (eq-eqb _ _ c.if-choice-eq1.true)

pub returns-else-choice-eq1 : goal.returns-else-choice-eq1
returns-else-choice-eq1 c = simp (ne_eqb _ _ c.if-choice-eq1.false)
