use mathlib.Core.Path.{◌≡◌}
use Prim.Native.Nat.{◌≤◌}
use Rattle.check_idle.proofs.Stretch.{Routers}
use Rattle.check_idle.proofs.routers_idle.Given as goal

abbrev pub invariant-loop-k : goal.invariant-loop-k
invariant-loop-k l = (l.k ≤ l.n) × (l.n ≡ l.h.routers) × Routers l.h l.s l.i l.k
