use lib.ListN.{length}
use mathlib.Core.Path.{◌≡◌}
use Rattle.graph_met.specs.Trails.{Turns}
use Prim.Native.Nat.{◌≤◌}
use Rattle.graph_met.proofs.sides.Given as goal

abbrev pub invariant-loop-o : goal.invariant-loop-o
invariant-loop-o l = (l.o ≤ 4) × (length l.up ≡ length l.initial.up) × Turns l.by l.next l.t l.x l.new 0 l.initial.up
    l.o l.up
