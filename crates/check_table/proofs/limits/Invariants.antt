use mathlib.Core.Path.{◌≡◌}
use Prim.Native.Nat.{◌≤◌}
use lib.ListN.{length}
use Rattle.check_table.proofs.Entries.{Filled}
use Rattle.check_table.proofs.limits.Given as goal

abbrev pub invariant-loop-t : goal.invariant-loop-t
invariant-loop-t l = (l.t ≤ 32) × (length l.l ≡ 64) × Filled l.slots l.t l.l
