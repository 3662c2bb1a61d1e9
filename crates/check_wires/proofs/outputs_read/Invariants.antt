use Rattle.check_wires.proofs.Phased.{SoFar}
use Rattle.plan.specs.Lent.{plan_by}
use Prim.Native.Nat.{◌≤◌}
use Rattle.check_wires.proofs.outputs_read.Given as goal

abbrev pub invariant-loop-m : goal.invariant-loop-m
invariant-loop-m l =
    (l.m ≤ l.n) × SoFar (plan_by l.h l.t) l.s l.m l.initial.coming l.coming l.initial.spent l.spent
