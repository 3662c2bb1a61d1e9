use mathlib.Core.Path.{◌≡◌}
use Prim.Native.Nat.{◌-◌, ◌≤◌}
use Rattle.graph_reach.specs.Sizes.{Grows}
use Rattle.graph_reach.specs.Reach.{sweep_at}
use Rattle.basis.specs.Fold.{up_to}
use Rattle.graph_reach.proofs.sweep_down.Given as goal

abbrev pub invariant-loop-x : goal.invariant-loop-x
invariant-loop-x l =
    (l.x ≤ l.n) × (l.t ≡ up_to (λ j. sweep_at l.by l.next (l.n - 1 - j)) (l.n - l.x) l.initial.t)
    × Grows l.by l.next l.routes
    l.s l.initial.t l.initial.z l.t l.z
