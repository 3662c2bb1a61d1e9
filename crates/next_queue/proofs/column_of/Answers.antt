use native.Mathlib.Omega.{arith}
use Rattle.next_queue.proofs.column_of.Goals as goal

pub returns-then-back : goal.returns-then-back
unfolding Rattle.next_queue.specs.Next.column_of
returns-then-back c = (simp c.if-back.true, omega arith)

pub returns-else-back : goal.returns-else-back
unfolding Rattle.next_queue.specs.Next.column_of
returns-else-back c = (simp c.if-back.false, omega arith)
