use borrow.Author.Tests.{lt-ltb, le-ltb}
use Rattle.next_queue.proofs.next_of.Goals as goal

pub returns-then-m-n-clause-queue : goal.returns-then-m-n-clause-queue
unfolding Rattle.next_queue.specs.Next.next_of
returns-then-m-n-clause-queue c = simp (lt-ltb _ _ c.if-m-n.true, c.entered.ensures.queue, c.from.ensures)

pub returns-clause-queue : goal.returns-clause-queue
unfolding Rattle.next_queue.specs.Next.next_of
returns-clause-queue c = simp (le-ltb _ _ c.if-m-n.false, c.routed.ensures.queue)
