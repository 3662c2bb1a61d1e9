use lib.ListN.{length}
use mathlib.Core.Path.{◌≡◌}
use Rattle.graph_reach.proofs.Sweeps.{Swept}
use Rattle.graph_met.specs.Trails.{Lengthens}
use Prim.Native.Nat.{◌≤◌}
use Rattle.graph_met.proofs.sweep_up.Given as goal

abbrev pub invariant-loop-x : goal.invariant-loop-x
invariant-loop-x l =
    (l.x ≤ l.n) × Swept l.by l.next l.initial.t l.x l.new l.t × (length l.up ≡ length l.initial.up) × Lengthens l.by
    l.next l.x l.initial.t l.initial.up l.t l.up
