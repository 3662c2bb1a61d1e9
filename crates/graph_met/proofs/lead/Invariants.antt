use Rattle.graph_met.proofs.Trailing.{Leading}
use Rattle.graph_met.proofs.lead.Given as goal

abbrev pub invariant-loop-d : goal.invariant-loop-d
invariant-loop-d l = Leading l.x l.n l.k l.d-iterator.left l.initial.up l.up
