use mathlib.Core.Bool.{true}
use Prim.Native.Nat.{◌-◌, ◌≤◌}
use Rattle.plan.specs.Lent.{plan_by}
use Rattle.check_queues.specs.Lines.{RowsChecked}
use Rattle.check_queues.proofs.rows_ok.Given as goal

abbrev pub invariant-loop-j : goal.invariant-loop-j
invariant-loop-j l = (l.k ≤ l.m) × RowsChecked (plan_by l.h l.t) l.s l.from l.k true l.initial.spent l.spent

abbrev pub decreases-loop-j : goal.decreases-loop-j
decreases-loop-j l = l.m - l.k
