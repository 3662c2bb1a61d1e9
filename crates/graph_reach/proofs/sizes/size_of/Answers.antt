use Rattle.graph_reach.specs.Sizes.{size_of}
use borrow.Author.Tests.{eq-eqb, ne_eqb}
use Rattle.graph_reach.proofs.sizes.size_of.Goals as goal

pub returns-then-far-eq0 : goal.returns-then-far-eq0
unfolding size_of
returns-then-far-eq0 c = simp (eq-eqb _ _ c.if-far-eq0.true)

pub returns-else-far-eq0 : goal.returns-else-far-eq0
unfolding size_of
returns-else-far-eq0 c = simp (ne_eqb _ _ c.if-far-eq0.false, c.longer.ensures)
