use mathlib.Core.Path.{◌≡◌}
use mathlib.Core.List.{[]}
use Prim.Native.Nat.{◌≤◌}
use Rattle.basis.specs.Fold.{up_to}
use Rattle.basis.specs.Bounded.{all_below}
use Rattle.plan.specs.Tables.{table_plan}
use Rattle.plan.specs.Rules.{back_ok, joint_of_port}
use Rattle.plan.specs.Found.{found_step}
use Rattle.plan_interfaces.proofs.found.Given as goal

abbrev pub invariant-loop-i : goal.invariant-loop-i
invariant-loop-i l =
    (l.i ≤ l.n) × (l.t ≡ up_to (found_step l.h.actives l.h.passives l.joints) l.i l.initial.t)
    × (l.ok ≡ all_below l.i (λ k. back_ok (table_plan l.h [] l.joints) k
    (joint_of_port (table_plan l.h [] l.joints) k)))
