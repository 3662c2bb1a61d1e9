use mathlib.Core.Path.{◌≡◌}
use Prim.Native.Nat.{◌≤◌}
use lib.ListN.{length}
use Rattle.basis.specs.Fold.{up_to}
use Rattle.plan.specs.Lent.{plan_by}
use Rattle.theory.specs.Invariant.{Core}
use Rattle.bytes_steps.specs.Acts.{Steps}
use Rattle.phase_read.specs.Reading.{delivery}
use Rattle.phase_read.proofs.deliver_all.Given as goal

abbrev pub invariant-loop-m : goal.invariant-loop-m
invariant-loop-m l =
    (l.m ≤ l.count) × Steps (plan_by l.h l.t) (Core (plan_by l.h l.t))
    (up_to (delivery
    (plan_by l.h l.t)) l.m) l.initial.s l.s
    × (length l.s ≡ length l.initial.s)
