use Rattle.graph_reach.specs.Sizes.{longer}
use borrow.Author.Tests.{lt-ltb, le-ltb}
use Rattle.graph_reach.proofs.sizes.longer.Goals as goal

pub returns-then-far-lt-MOST : goal.returns-then-far-lt-MOST
unfolding longer
returns-then-far-lt-MOST c = simp (lt-ltb _ _ c.if-far-lt-MOST.true)

pub returns-else-far-lt-MOST : goal.returns-else-far-lt-MOST
unfolding longer
returns-else-far-lt-MOST c = simp (le-ltb _ _ c.if-far-lt-MOST.false)
