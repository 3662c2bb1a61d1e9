use mathlib.Core.Path.{◌≡◌}
use Prim.Native.Nat.{◌+◌, ◌*◌, ◌≤◌}
use lib.ListN.{length, get_or, set}
use Rattle.basis.specs.Fold.{up_to}
use Rattle.call_start.proofs.lay_credits.Given as goal

abbrev pub invariant-loop-i : goal.invariant-loop-i
invariant-loop-i l =
    (l.i ≤ l.n) × (l.s ≡ up_to (λ k c. set c (2 + 39 * (l.from + k)) (get_or l.t k 0)) l.i l.initial.s) ×
    (length l.s ≡ length l.initial.s)
