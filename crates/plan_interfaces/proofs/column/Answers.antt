use mathlib.Core.Path.{sym, ap, ◌∙◌}
use native.Mathlib.Omega.{arith}
use Prim.Native.Nat.{ℕ, ◌+◌}
use Rattle.plan.proofs.JointLaws.{active_is, passive_is, named_active, named_passive}
use Rattle.plan.proofs.JointLaws.{no_interface}
use Rattle.plan_interfaces.proofs.PortLaws.{some_same, some_not, none_not}
use Rattle.plan_interfaces.proofs.column.Goals as goal

pub overflow_add-result : goal.overflow_add-result
overflow_add-result c =
    let is = passive_is _ (sym c.joint_of.ensures ∙ c.in-Passive.is) in
    let few = c.requires.0 in
    record { fits = omega (arith, is.1, few.1) }

pub returns-in-Active : goal.returns-in-Active
returns-in-Active c =
    let is = active_is _ (sym c.joint_of.ensures ∙ c.in-Active.is) in (
      λ d e. (
        some_same e ∙ is.1 ∙ named_active _ _ c.requires.1 is.0,
        omega (arith, some_same e, is.1),
        omega (arith, is.0),
      ),
      λ e. absurd (some_not e),
    )

pub returns-in-Passive : goal.returns-in-Passive
returns-in-Passive c =
    let is = passive_is _ (sym c.joint_of.ensures ∙ c.in-Passive.is) in
    let few = c.requires.0 in (
      λ d e. (
        some_same e ∙ ap (λ (n : ℕ). c.args.h.actives + n) is.1 ∙ named_passive _ _ c.requires.1 is.0,
        omega (arith, some_same e, is.1, few.1),
        omega (arith, is.0),
      ),
      λ e. absurd (some_not e),
    )

pub returns-in_default : goal.returns-in_default
returns-in_default c = (
  λ d e. absurd (none_not e),
  λ e. no_interface _ (omega arith) (λ n q. c.in_default.not-Active n (c.joint_of.ensures ∙ q))
      (λ n q. c.in_default.not-Passive n (c.joint_of.ensures ∙ q)),
)
