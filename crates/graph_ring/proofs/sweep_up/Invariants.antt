use Prim.Native.Nat.{◌≤◌}
use Rattle.graph_ring.proofs.Laws.{Swept}
use Rattle.graph_ring.proofs.sweep_up.Given as goal

abbrev pub invariant-loop-g : goal.invariant-loop-g
invariant-loop-g l = (l.g ≤ l.n) × Swept l.cells l.initial.left l.g l.gone l.left
