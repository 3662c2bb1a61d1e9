use Rattle.graph_ring.specs.Words.{Left}
use Rattle.graph_ring.proofs.words.has_ring.Given as goal

abbrev pub invariant-loop-left : goal.invariant-loop-left
invariant-loop-left l = Left l.follow l.n l.left

abbrev pub decreases-loop-left : goal.decreases-loop-left
decreases-loop-left l = l.left
