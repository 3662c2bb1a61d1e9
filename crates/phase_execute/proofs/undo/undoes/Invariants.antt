use Rattle.theory.specs.Invariant.{Core}
use Rattle.rules.specs.Execute.{undo}
use Rattle.plan.specs.Lent.{plan_by}
use Rattle.basis.specs.Fold.{up_to}
use lib.ListN.{length}
use Prim.Native.Nat.{◌≤◌}
use mathlib.Core.Path.{◌≡◌}
use Rattle.bytes_steps.specs.Acts.{Steps}
use Rattle.phase_execute.proofs.undo.undoes.Given as goal

abbrev pub invariant-loop-a : goal.invariant-loop-a
invariant-loop-a l =
    (l.a ≤ l.a-end) × (l.a-end ≡ l.h.actives)
    × Steps (plan_by l.h l.t) (Core (plan_by l.h l.t))
    (up_to (undo (plan_by l.h l.t)) l.a)
    l.initial.s l.s
    × (length l.s ≡ length l.initial.s)
