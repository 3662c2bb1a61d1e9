use Prim.Native.Nat.{◌≤◌}
use Rattle.graph_reach.specs.Sizes.{Grows}
use Rattle.graph_reach.proofs.Sweeps.{Swept}
use Rattle.graph_reach.proofs.sweep_up.Given as goal

abbrev pub invariant-loop-x : goal.invariant-loop-x
invariant-loop-x l =
    (l.x ≤ l.n) × Swept l.by l.next l.initial.t l.x l.new l.t × Grows l.by l.next l.routes l.s l.initial.t l.initial.z
    l.t l.z
