use Rattle.check_queues.specs.Lines.{RowsChecked}
use Rattle.plan.specs.Head.{destinations}
use Rattle.plan.specs.Lent.{plan_by}
use mathlib.Core.Bool.{true}
use Prim.Native.Nat.{◌≤◌, ◌*◌}
use Rattle.check_queues.proofs.routers_ok.Given as goal

abbrev pub invariant-loop-r : goal.invariant-loop-r
invariant-loop-r l =
    (l.r ≤ l.n) × RowsChecked (plan_by l.h l.t) l.s (destinations l.h) (28 * l.r) true l.initial.spent
    l.spent
