use mathlib.Core.Path.{◌≡◌}
use Prim.Native.Nat.{◌≤◌}
use lib.Dec.{eqb}
use Rattle.check_last_senders.specs.Turns.{side_ranks}
use Rattle.check_last_senders.proofs.sides_unfit.Given as goal

abbrev pub invariant-loop-o : goal.invariant-loop-o
invariant-loop-o l = (l.o ≤ 4) × (eqb l.bad 0 ≡ side_ranks l.i l.k l.o l.joints l.s)
