use Rattle.graph_reach.specs.Reach.{through_of}
use Rattle.graph_reach.proofs.through.Goals as goal

pub returns : goal.returns
unfolding through_of
returns c = rw (c.both.ensures, c.from-n.ensures)
