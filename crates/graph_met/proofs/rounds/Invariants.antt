use lib.ListN.{length}
use Rattle.graph_reach.proofs.Sweeps.{Round}
use Rattle.graph_met.specs.Trails.{Trailed}
use Prim.Native.Nat.{◌+◌, ◌*◌, ◌≤◌}
use mathlib.Core.Path.{◌≡◌}
use Rattle.graph_met.proofs.rounds.Given as goal

abbrev pub invariant-loop-k : goal.invariant-loop-k
invariant-loop-k l =
    (l.k ≤ l.n) × Round l.by l.next l.n l.initial.t l.k l.t × (length l.up ≡ length l.initial.up)
    × Trailed l.by l.next l.initial.t (1 + 32 * l.k) l.t l.up
