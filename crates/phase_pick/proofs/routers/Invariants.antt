use mathlib.Core.Path.{◌≡◌}
use Prim.Native.Nat.{◌≤◌}
use lib.ListN.{length}
use Rattle.basis.specs.Fold.{up_to}
use Rattle.plan.specs.Head.{destinations}
use Rattle.plan.specs.Lent.{plan_by}
use Rattle.bytes_steps.specs.Acts.{Steps}
use Rattle.phase_pick.specs.Moments.{Picks, chooses_at}
use Rattle.phase_pick.proofs.routers.Given as goal

abbrev pub invariant-loop-r : goal.invariant-loop-r
invariant-loop-r l =
    (l.r ≤ l.r-end) × (l.r-end ≡ l.h.routers)
    × Steps (plan_by l.h l.t) (Picks (plan_by l.h l.t) (destinations l.h))
    (up_to (chooses_at (plan_by l.h l.t) (destinations l.h)) l.r) l.initial.s l.s
    × (length l.s ≡ length l.initial.s)
