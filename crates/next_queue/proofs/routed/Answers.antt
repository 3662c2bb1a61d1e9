use borrow.Author.Tests.{lt-ltb, le-ltb, eq-eqb, ne_eqb}
use Rattle.next_queue.proofs.routed.Goals as goal

pub returns-then-k-lt4-clause-queue : goal.returns-then-k-lt4-clause-queue
unfolding Rattle.next_queue.specs.Next.routed_of
returns-then-k-lt4-clause-queue c = simp (lt-ltb _ _ c.if-k-lt4.true, c.across.ensures.queue)

pub returns-then-k-eq4-clause-queue : goal.returns-then-k-eq4-clause-queue
unfolding Rattle.next_queue.specs.Next.routed_of
returns-then-k-eq4-clause-queue c = simp (le-ltb _ _ c.if-k-lt4.false, eq-eqb _ _ c.if-k-eq4.true)

pub returns-clause-queue : goal.returns-clause-queue
unfolding Rattle.next_queue.specs.Next.routed_of
returns-clause-queue c = simp (
  le-ltb _ _ c.if-k-lt4.false,
  ne_eqb _ _ c.if-k-eq4.false,
  c.leaves.ensures.queue,
  c.side_out-o.ensures.0,
  c.column_of-d.ensures.0,
  c.base_of-base.ensures.0,
)
