use Prim.Native.Nat.{◌≤◌}
use Rattle.check_idle.proofs.Stretch.{Sides}
use Rattle.check_idle.proofs.sides_idle.Given as goal

abbrev pub invariant-loop-o : goal.invariant-loop-o
invariant-loop-o l = (l.o ≤ 4) × Sides l.h l.s l.i l.o
