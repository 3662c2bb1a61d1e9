use mathlib.Core.Path.{◌≡◌}
use Prim.Native.Nat.{◌≤◌}
use Rattle.basis.specs.Fold.{up_to, fill}
use Rattle.basis.specs.Bounded.{all_below}
use Rattle.plan.specs.declared.Head.{Head}
use Rattle.plan.specs.Tables.{joint_byte, joint_byte_ok}
use Rattle.plan.proofs.joints.joints.Given as goal

abbrev pub invariant-loop-i : goal.invariant-loop-i
invariant-loop-i l =
    (l.i ≤ l.n) × (l.t ≡ up_to (fill (joint_byte l.plan)) l.i l.initial.t)
    × ((h : Head) → l.routers ≡ h.routers → l.actives ≡ h.actives → l.passives ≡ h.passives
    → l.ok ≡ all_below l.i (λ k. joint_byte_ok h (joint_byte l.plan k)))
