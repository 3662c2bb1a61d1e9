use Rattle.graph_reach.specs.Reach.{pull_of}
use Rattle.graph_reach.proofs.pull.Goals as goal

pub returns : goal.returns
unfolding pull_of
returns c = rw (
  c.either-4.ensures,
  c.either-3.ensures,
  c.either-2.ensures,
  c.either.ensures,
  c.through-d.ensures,
  c.through-c.ensures,
  c.through-b.ensures,
  c.through-a.ensures,
)
