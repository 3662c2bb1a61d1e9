use Rattle.graph_ring.proofs.stays.Goals as goal

pub returns : goal.returns
unfolding Rattle.graph_ring.specs.Cells.stays_of
returns c = rw c.both.ensures
