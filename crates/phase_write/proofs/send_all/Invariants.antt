use mathlib.Core.Path.{◌≡◌}
use Prim.Native.Nat.{◌≤◌}
use lib.ListN.{length}
use Rattle.basis.specs.Fold.{up_to}
use Rattle.plan.specs.Lent.{plan_by}
use Rattle.bytes_steps.specs.Acts.{Steps}
use Rattle.phase_write.specs.Writing.{sending, Picked}
use Rattle.phase_write.proofs.send_all.Given as goal

abbrev pub invariant-loop-m : goal.invariant-loop-m
invariant-loop-m l =
    (l.m ≤ l.count) × Steps (plan_by l.h l.t) (Picked (plan_by l.h l.t))
    (up_to (sending
    (plan_by l.h l.t)) l.m) l.initial.s l.s
    × (length l.s ≡ length l.initial.s)
