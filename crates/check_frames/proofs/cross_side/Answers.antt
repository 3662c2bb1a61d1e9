use native.Mathlib.Omega.{arith}
use native.Mathlib.Numerals.{add-one}
use borrow.Author.Tests.{lt-ltb, le-ltb}
use Rattle.check_frames.proofs.cross_side.Goals as goal

pub returns-then-k-o : goal.returns-then-k-o
returns-then-k-o c = (simp (lt-ltb _ _ c.if-k-o.true), omega arith)

pub returns-else-k-o : goal.returns-else-k-o
returns-else-k-o c = (simp (le-ltb _ _ c.if-k-o.false, add-one), omega arith)
