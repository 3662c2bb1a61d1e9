use Rattle.graph_ring.proofs.keep.Goals as goal

pub returns-then-stays : goal.returns-then-stays
unfolding Rattle.graph_ring.specs.Cells.keep_of
returns-then-stays c = rw (← c.stays.ensures, c.if-stays.true) c.single.ensures

pub returns : goal.returns
unfolding Rattle.graph_ring.specs.Cells.keep_of
returns c = rw (← c.stays.ensures, c.if-stays.false)
