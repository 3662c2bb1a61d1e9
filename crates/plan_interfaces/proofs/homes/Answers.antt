use Rattle.plan.proofs.JointTests.{all_and, all_end}
use Rattle.plan_interfaces.proofs.PortLaws.{found_ok, found_homes}
use Rattle.basis.specs.Fold.{up_to, up_none, up_fill, up_done}
use Rattle.basis.specs.Bounded.{all_none}
use native.Mathlib.Omega.{arith}
use Prim.Native.Nat.{◌+◌}
use mathlib.Core.Bool.{Bool, ◌&&◌}
use mathlib.Core.Path.{◌≡◌, ◌∙◌, refl, sym, ap, ap₂}
use Rattle.plan_interfaces.proofs.homes.Goals as goal

pub found-named-requires : goal.found-named-requires
found-named-requires c =
    let p = c.requires in (p.0, p.1, refl)

pub loop-d-init : goal.loop-d-init
loop-d-init c = (omega arith, up_none _ _, sym (all_none _))

pub loop-d-preserved : goal.loop-d-preserved
loop-d-preserved c = (
  omega arith,
  up_fill _ _ _ c.loop-d.invariant.1 c.port_or_0.ensures,
  all_and _ _ c.loop-d.invariant.2 refl,
)

pub returns : goal.returns
returns c =
    let a = c.args in
    let p = c.requires in
    let found = c.found-named.ensures in
    let end : c.loop-d.d ≡ a.h.actives + a.h.passives = omega arith in (
      up_done _ _ c.loop-d.invariant.1 end ∙ ap (up_to _ _) p.2
          ∙ found_homes a.h a.joints.now p.0.0 p.0.1 p.0.2 _ found.0,
      ap₂ (λ (x y : Bool). x && y) found.1
          (all_end _ c.loop-d.invariant.2 end
          ∙ found_ok a.h a.joints.now p.0.0 p.0.1 p.0.2 _ found.0),
    )
