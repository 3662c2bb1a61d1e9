use Rattle.basis.specs.Fold.{up_to, fill}
use Rattle.graph_links.specs.Cells.{leave_of}
use mathlib.Core.Path.{◌≡◌}
use lib.ListN.{replicate}
use Prim.Native.Nat.{◌*◌, ◌≤◌}
use Rattle.graph_links.proofs.leaves.Given as goal

abbrev pub invariant-loop-x : goal.invariant-loop-x
invariant-loop-x l = (l.x ≤ l.n) × (l.l ≡ up_to (fill (leave_of l.by l.t l.limit)) (4 * l.x) (replicate 64 0))
