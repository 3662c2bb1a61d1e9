use Prim.Native.Nat.{◌-◌, ◌≤◌}
use mathlib.Core.Path.{◌≡◌}
use Rattle.graph_ring.specs.Cells.{judge_at}
use Rattle.basis.specs.Fold.{up_to}
use Rattle.graph_ring.proofs.sweep_down.Given as goal

abbrev pub invariant-loop-g : goal.invariant-loop-g
invariant-loop-g l =
    (l.g ≤ l.n) × (l.left ≡ up_to (λ j. judge_at l.cells (l.n - 1 - j)) (l.n - l.g) l.initial.left)
