use Rattle.phase_execute.specs.Moments.{Turn}
use Rattle.rules.specs.Execute.{unit_at}
use Rattle.plan.specs.Lent.{plan_by}
use Rattle.basis.specs.Fold.{up_to}
use lib.ListN.{length}
use Prim.Native.Nat.{◌≤◌, ◌*◌}
use mathlib.Core.Path.{◌≡◌}
use Rattle.bytes_steps.specs.Acts.{Steps}
use Rattle.phase_execute.proofs.heads.heads.Given as goal

abbrev pub invariant-loop-m : goal.invariant-loop-m
invariant-loop-m l =
    (l.m ≤ l.n) × (l.n ≡ 4 * l.h.routers)
    × Steps (plan_by l.h l.t) (Turn (plan_by l.h l.t) 0)
    (up_to (unit_at (plan_by l.h l.t))
    l.m) l.initial.s l.s
    × (length l.s ≡ length l.initial.s)
