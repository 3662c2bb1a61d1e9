use lib.ListN.{length}
use Rattle.graph_met.specs.Trails.{Lengthens}
use Rattle.graph_reach.specs.Reach.{sweep_at}
use Rattle.basis.specs.Fold.{up_to}
use Prim.Native.Nat.{◌-◌, ◌≤◌}
use mathlib.Core.Path.{◌≡◌}
use Rattle.graph_met.proofs.sweep_down.Given as goal

abbrev pub invariant-loop-x : goal.invariant-loop-x
invariant-loop-x l =
    (l.x ≤ l.n) × (l.t ≡ up_to (λ j. sweep_at l.by l.next (l.n - 1 - j)) (l.n - l.x) l.initial.t) ×
    (length l.up ≡ length l.initial.up)
    × Lengthens l.by l.next (l.n - l.x) l.initial.t l.initial.up l.t l.up
