use Prim.Native.Nat.{◌≤◌}
use Rattle.plan.specs.Lent.{plan_by}
use Rattle.phase_pick.specs.Moments.{Passed}
use Rattle.phase_pick.proofs.first.Given as goal

abbrev pub invariant-loop-k : goal.invariant-loop-k
invariant-loop-k l = (l.i ≤ l.k) × Passed (plan_by l.h l.t) l.of.number l.of.from l.i l.k l.s
