use borrow.Author.Tests.{lt-ltb, le-ltb}
use Rattle.next_queue.proofs.leaves.Goals as goal

pub returns-then-back-clause-queue : goal.returns-then-back-clause-queue
unfolding Rattle.next_queue.specs.Next.leaves_of
returns-then-back-clause-queue c = simp (lt-ltb _ _ c.if-o-lt4.true, c.if-back.true)

pub returns-then-o-lt4-clause-queue : goal.returns-then-o-lt4-clause-queue
unfolding Rattle.next_queue.specs.Next.leaves_of
returns-then-o-lt4-clause-queue c = simp (lt-ltb _ _ c.if-o-lt4.true, c.if-back.false)

pub returns-clause-queue : goal.returns-clause-queue
unfolding Rattle.next_queue.specs.Next.leaves_of
returns-clause-queue c = simp (le-ltb _ _ c.if-o-lt4.false)
