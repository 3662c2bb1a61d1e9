use borrow.Author.Tests.{eq-eqb, ne_eqb}
use Rattle.next_queue.proofs.across.Goals as goal

pub returns-then-v-eq1-clause-queue : goal.returns-then-v-eq1-clause-queue
unfolding Rattle.next_queue.specs.Next.across_of
returns-then-v-eq1-clause-queue c = simp (eq-eqb _ _ c.if-v-eq1.true, c.entered.ensures.queue, c.from.ensures)

pub returns-then-v-eq2-clause-queue : goal.returns-then-v-eq2-clause-queue
unfolding Rattle.next_queue.specs.Next.across_of
returns-then-v-eq2-clause-queue c = simp (
  ne_eqb _ _ c.if-v-eq1.false,
  eq-eqb _ _ c.if-v-eq2.true,
  c.base_of.ensures.0,
  c.from-then-v-eq2.ensures,
)

pub returns-then-v-eq3-clause-queue : goal.returns-then-v-eq3-clause-queue
unfolding Rattle.next_queue.specs.Next.across_of
returns-then-v-eq3-clause-queue c = simp (
  ne_eqb _ _ c.if-v-eq1.false,
  ne_eqb _ _ c.if-v-eq2.false,
  eq-eqb _ _ c.if-v-eq3.true,
  c.base_of-then-v-eq3.ensures.0,
  c.from-then-v-eq3.ensures,
)

pub returns-clause-queue : goal.returns-clause-queue
unfolding Rattle.next_queue.specs.Next.across_of
returns-clause-queue c = simp (
  ne_eqb _ _ c.if-v-eq1.false,
  ne_eqb _ _ c.if-v-eq2.false,
  ne_eqb _ _ c.if-v-eq3.false,
)
