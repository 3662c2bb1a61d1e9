use Prim.Native.Nat.{◌≤◌}
use Rattle.graph_links.specs.Starts.{Answering}
use Rattle.graph_links.proofs.starts.answering.Given as goal

abbrev pub invariant-loop-a : goal.invariant-loop-a
invariant-loop-a l = (l.a ≤ l.actives) × Answering l.by l.joints l.homes l.served l.n l.a l.t
