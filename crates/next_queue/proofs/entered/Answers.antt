use Rattle.next_queue.proofs.entered.Goals as goal

pub returns-then-back-clause-queue : goal.returns-then-back-clause-queue
unfolding Rattle.next_queue.specs.Next.entered_of
returns-then-back-clause-queue c = simp (
  c.if-back.true,
  c.crossed.ensures.queue,
  c.side_out-o.ensures.0,
  c.base_of-base.ensures.0,
)

pub returns-clause-queue : goal.returns-clause-queue
unfolding Rattle.next_queue.specs.Next.entered_of
returns-clause-queue c = simp (c.if-back.false, c.base_of-base.ensures.0)
