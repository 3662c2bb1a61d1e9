use Rattle.graph_ring.proofs.Laws.{Peeled}
use mathlib.Core.Path.{◌≡◌}
use Prim.Native.Nat.{◌*◌, ◌≤◌}
use Rattle.graph_ring.proofs.has_ring.Given as goal

abbrev pub invariant-loop-k : goal.invariant-loop-k
invariant-loop-k l = (l.k ≤ 4 * l.n) × (l.k-end ≡ 4 * l.n) × Peeled l.cells l.n l.k l.left
