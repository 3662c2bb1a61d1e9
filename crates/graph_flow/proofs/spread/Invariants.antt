use Rattle.graph_flow.specs.Carried.{Round}
use Rattle.sets.specs.Sets.{below}
use mathlib.Core.Path.{◌≡◌}
use Prim.Native.Nat.{◌≤◌}
use Rattle.graph_flow.proofs.spread.Given as goal

abbrev pub invariant-loop-k : goal.invariant-loop-k
invariant-loop-k l = (l.k ≤ l.n) × (l.all ≡ below l.n) × Round l.by l.joints l.n l.initial.t l.k l.work l.t
