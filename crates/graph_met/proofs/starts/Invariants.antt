use lib.ListN.{length}
use mathlib.Core.Path.{◌≡◌}
use Rattle.graph_met.specs.Trails.{Started}
use Rattle.graph_met.proofs.starts.Given as goal

abbrev pub invariant-loop-x : goal.invariant-loop-x
invariant-loop-x l = (length l.up ≡ length l.initial.up) × Started l.x l.t l.up
