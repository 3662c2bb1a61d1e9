use mathlib.Core.Path.{◌≡◌}
use mathlib.Core.Bool.{true}
use Prim.Native.Nat.{◌≤◌}
use Rattle.check_idle.specs.Bytes.{sides_zero}
use Rattle.check_table.proofs.unused.Given as goal

abbrev pub invariant-loop-k : goal.invariant-loop-k
invariant-loop-k l = (l.k ≤ l.n) × (sides_zero l.i l.k l.s ≡ true)
