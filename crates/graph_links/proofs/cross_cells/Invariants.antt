use mathlib.Core.Path.{◌≡◌}
use Prim.Native.Nat.{ℕ, ◌<◌}
use lib.ListN.{get_or}
use Rattle.graph_links.specs.Cells.{cross_of}
use Rattle.graph_links.proofs.cross_cells.Given as goal

abbrev pub invariant-loop-x : goal.invariant-loop-x
invariant-loop-x l = (k : ℕ) → k < l.x → get_or l.cell-items k 0 ≡ cross_of l.l l.joints k
