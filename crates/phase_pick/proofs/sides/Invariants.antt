use Rattle.phase_pick.specs.Moments.{Picks, chooses_from}
use Rattle.bytes_steps.specs.Acts.{Steps}
use Rattle.plan.specs.Lent.{plan_by}
use Rattle.plan.specs.Head.{destinations}
use lib.ListN.{length}
use Prim.Native.Nat.{◌+◌, ◌*◌, ◌≤◌}
use mathlib.Core.Path.{◌≡◌}
use Rattle.phase_pick.proofs.sides.Given as goal

abbrev pub invariant-loop-o : goal.invariant-loop-o
invariant-loop-o l =
    (l.o ≤ 4)
    × Steps (plan_by l.h l.t) (Picks (plan_by l.h l.t) (destinations l.h + 6 * l.r))
    (chooses_from (plan_by l.h l.t) (destinations l.h + 6 * l.r) l.o) l.initial.s l.s
    × (length l.s ≡ length l.initial.s)
