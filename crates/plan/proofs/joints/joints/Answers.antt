use mathlib.Core.Path.{◌≡◌, ◌∙◌, refl, sym, ap}
use Prim.Native.Nat.{◌*◌}
use native.Mathlib.Omega.{arith}
use Rattle.basis.specs.Fold.{up_to, up_none, up_fill, up_done}
use Rattle.basis.specs.Bounded.{all_none}
use Rattle.plan.specs.Tables.{joints_of, joint_byte_ok, joint_bytes_ok}
use Rattle.plan.proofs.JointTests.{all_and, all_end, joints_tested}
use Rattle.plan.proofs.joints.joints.Goals as goal

pub overflow_cast-routers : goal.overflow_cast-routers
overflow_cast-routers c = let few = c.requires.0 in omega (arith, few.0)

pub overflow_cast-actives : goal.overflow_cast-actives
overflow_cast-actives c = let few = c.requires.0 in omega (arith, few.1)

pub overflow_cast-passives : goal.overflow_cast-passives
overflow_cast-passives c =
    let few = c.requires.0 in omega (arith, few.2)

pub loop-i-init : goal.loop-i-init
loop-i-init c = (omega arith, up_none _ _, λ h r a p. sym (all_none _))

pub loop-i-preserved : goal.loop-i-preserved
loop-i-preserved c = (
  omega arith,
  up_fill _ _ _ c.loop-i.invariant.1 c.joint_byte-v.ensures,
  λ h r a
      p. all_and _ _ (c.loop-i.invariant.2 h r a p) (c.joint_byte_ok-ok.ensures h r a p ∙ ap
      (joint_byte_ok _) c.joint_byte-v.ensures),
)

pub returns : goal.returns
unfolding joints_of
returns c =
    let end : c.loop-i.i ≡ 4 * c.args.h.routers = omega arith in
    let read : c.loop-i.t ≡ joints_of c.args.plan.now c.args.h =
    up_done _ _ c.loop-i.invariant.1 end ∙ ap (up_to _ _) c.requires.2 in (
      read,
      all_end _ (c.loop-i.invariant.2 c.args.h refl refl refl) end ∙ joints_tested c.args.plan.now c.args.h
          c.requires.0.0 ∙ ap (joint_bytes_ok _) (sym read),
    )
