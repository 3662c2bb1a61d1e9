use Rattle.graph_ring.proofs.Going.{Going}
use Rattle.graph_ring.proofs.words.sweep_down.Given as goal

abbrev pub invariant-loop-x : goal.invariant-loop-x
invariant-loop-x l = Going l.follow l.n l.left l.x-iterator.iter.left l.now
