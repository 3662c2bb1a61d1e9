use native.Mathlib.Omega.{arith}
use borrow.Author.Tests.{lt-ltb, le-ltb, eq-eqb, ne_eqb}
use Rattle.next_queue.proofs.crossed.Goals as goal

pub returns-then-i-o-clause-queue : goal.returns-then-i-o-clause-queue
unfolding Rattle.next_queue.specs.Next.crossed_of
returns-then-i-o-clause-queue c = simp (lt-ltb _ _ c.if-o-lt4.true, eq-eqb _ _ c.if-i-o.true)

pub returns-then-i-o-2-clause-queue : goal.returns-then-i-o-2-clause-queue
unfolding Rattle.next_queue.specs.Next.crossed_of
returns-then-i-o-2-clause-queue c = simp (
  lt-ltb _ _ c.if-o-lt4.true,
  ne_eqb _ _ c.if-i-o.false,
  lt-ltb _ _ c.if-i-o-2.true,
) (omega arith)

pub returns-then-o-lt4-clause-queue : goal.returns-then-o-lt4-clause-queue
unfolding Rattle.next_queue.specs.Next.crossed_of
returns-then-o-lt4-clause-queue c = simp (
  lt-ltb _ _ c.if-o-lt4.true,
  ne_eqb _ _ c.if-i-o.false,
  le-ltb _ _ c.if-i-o-2.false,
) (omega arith)

pub returns-clause-queue : goal.returns-clause-queue
unfolding Rattle.next_queue.specs.Next.crossed_of
returns-clause-queue c = simp (le-ltb _ _ c.if-o-lt4.false)
