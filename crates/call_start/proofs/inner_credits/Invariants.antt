use mathlib.Core.Path.{◌≡◌}
use Prim.Native.Nat.{◌*◌, ◌≤◌}
use lib.ListN.{length}
use Rattle.basis.specs.Fold.{up_to}
use Rattle.call_start.specs.Starting.{router_credits}
use Rattle.call_start.proofs.inner_credits.Given as goal

abbrev pub invariant-loop-r : goal.invariant-loop-r
invariant-loop-r l =
    (l.r ≤ l.n) × (l.t ≡ up_to (λ k x. router_credits l.h (28 * k) x) l.r l.initial.t) ×
    (length l.t ≡ length l.initial.t)
