use Prim.Native.Nat.{◌≤◌}
use Rattle.graph_reach.specs.Sizes.{Grows}
use Rattle.graph_reach.proofs.Sweeps.{Round}
use Rattle.graph_reach.proofs.reach.Given as goal

abbrev pub invariant-loop-k : goal.invariant-loop-k
invariant-loop-k l =
    (l.k ≤ l.n) × Round l.by l.next l.n l.initial.t l.k l.t × Grows l.by l.next l.routes l.s l.initial.t l.initial.z l.t
    l.z
