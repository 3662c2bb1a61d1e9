use Rattle.graph_flow.specs.Carried.{Round}
use lib.ListN.{length}
use mathlib.Core.Path.{◌≡◌}
use mathlib.Core.List.{List}
use Prim.Native.Nat.{ℕ, ◌≤◌}
use Rattle.graph_flow.proofs.sweep_down.Given as goal

abbrev pub invariant-loop-x : goal.invariant-loop-x
invariant-loop-x l = (l.x ≤ l.n) × (length l.t ≡ 32)
    × ((first : List ℕ) (k : ℕ) → Round l.by l.joints l.n first k l.work l.initial.t → Round l.by l.joints l.n first k
    l.left l.t)
