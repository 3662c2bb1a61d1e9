use Prim.Native.Nat.{◌≤◌}
use lib.ListN.{replicate}
use mathlib.Core.Path.{◌≡◌}
use Rattle.graph_links.specs.Starts.{start_at}
use Rattle.basis.specs.Fold.{up_to}
use Rattle.graph_links.proofs.starts.starts.Given as goal

abbrev pub invariant-loop-a : goal.invariant-loop-a
invariant-loop-a l = (l.a ≤ l.n) × (l.t ≡ up_to (start_at l.homes l.served) l.a (replicate 32 0))
