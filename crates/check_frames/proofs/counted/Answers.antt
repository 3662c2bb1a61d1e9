use borrow.Author.Tests.{lt-ltb, le-ltb}
use Rattle.check_frames.proofs.counted.Goals as goal

pub returns-then-x-lt200 : goal.returns-then-x-lt200
unfolding Rattle.check_frames.specs.Tally.counted
returns-then-x-lt200 c = simp (lt-ltb _ _ c.if-x-lt200.true)

pub returns-else-x-lt200 : goal.returns-else-x-lt200
unfolding Rattle.check_frames.specs.Tally.counted
returns-else-x-lt200 c = simp (le-ltb _ _ c.if-x-lt200.false)
