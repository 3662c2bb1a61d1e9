use borrow.Author.Tests.{lt-ltb, le-ltb}
use Rattle.check_frames.proofs.unit_at.Goals as goal

pub returns-then-n-d : goal.returns-then-n-d
unfolding Rattle.check_frames.specs.Frame.unit_of
returns-then-n-d c = simp (lt-ltb _ _ c.if-n-d.true)

pub returns-then-n-d-2 : goal.returns-then-n-d-2
unfolding Rattle.check_frames.specs.Frame.unit_of
returns-then-n-d-2 c = simp (le-ltb _ _ c.if-n-d.false, lt-ltb _ _ c.if-n-d-2.true)

pub returns : goal.returns
unfolding Rattle.check_frames.specs.Frame.unit_of
returns c = simp (le-ltb _ _ c.if-n-d.false, le-ltb _ _ c.if-n-d-2.false)
