use Prim.Native.Nat.{◌≤◌}
use Rattle.plan_walks.proofs.Stood.{Stood}
use Rattle.plan_walks.proofs.stands.Given as goal

abbrev pub invariant-loop-i : goal.invariant-loop-i
invariant-loop-i l = (l.i ≤ l.k) × Stood l.routes l.joints l.d l.want l.from l.i l.at
