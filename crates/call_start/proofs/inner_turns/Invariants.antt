use mathlib.Core.Path.{◌≡◌}
use Prim.Native.Nat.{◌+◌, ◌*◌, ◌≤◌}
use lib.ListN.{length}
use Rattle.basis.specs.Fold.{up_to}
use Rattle.call_start.specs.Starting.{router_turns}
use Rattle.call_start.proofs.inner_turns.Given as goal

abbrev pub invariant-loop-r : goal.invariant-loop-r
invariant-loop-r l =
    (l.r ≤ l.n) × (l.s ≡ up_to (λ k x. router_turns (l.at + 6 * k) x) l.r l.initial.s) ×
    (length l.s ≡ length l.initial.s)
