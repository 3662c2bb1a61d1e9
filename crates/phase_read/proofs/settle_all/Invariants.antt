use mathlib.Core.Path.{◌≡◌}
use Prim.Native.Nat.{◌≤◌}
use lib.ListN.{length}
use Rattle.phase_read.specs.Reading.{SettlesTo}
use Rattle.phase_read.proofs.settle_all.Given as goal

abbrev pub invariant-loop-n : goal.invariant-loop-n
invariant-loop-n l = (l.n ≤ l.count) × SettlesTo l.n l.initial.s l.s × (length l.s ≡ length l.initial.s)
