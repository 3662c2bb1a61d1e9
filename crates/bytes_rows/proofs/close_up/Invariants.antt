use mathlib.Core.Path.{◌≡◌}
use Prim.Native.Nat.{◌+◌, ◌*◌, ◌≤◌}
use lib.ListN.{length}
use Rattle.basis.specs.Fold.{up_to}
use Rattle.bytes_layout.specs.Updates.{move_place}
use Rattle.bytes_rows.proofs.close_up.Given as goal

abbrev pub invariant-loop-j : goal.invariant-loop-j
invariant-loop-j l = (l.j ≤ l.n) × (l.s ≡ up_to (λ i. move_place (l.at + 5 * i)) l.j l.initial.s) ×
    (length l.s ≡ length l.initial.s)
