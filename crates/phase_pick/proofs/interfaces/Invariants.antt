use Rattle.phase_pick.specs.Moments.{Picks, chooses}
use Rattle.bytes_steps.specs.Acts.{Steps}
use Rattle.plan.specs.Lent.{plan_by}
use Rattle.plan.specs.Head.{destinations}
use Rattle.basis.specs.Fold.{up_to}
use lib.ListN.{length}
use Prim.Native.Nat.{◌≤◌}
use mathlib.Core.Path.{◌≡◌}
use Rattle.phase_pick.proofs.interfaces.Given as goal

abbrev pub invariant-loop-m : goal.invariant-loop-m
invariant-loop-m l =
    (l.m ≤ l.n) × (l.n ≡ destinations l.h)
    × Steps (plan_by l.h l.t) (Picks (plan_by l.h l.t) 0)
    (up_to (chooses (plan_by l.h l.t)) l.m)
    l.initial.s l.s
    × (length l.s ≡ length l.initial.s)
