use mathlib.Core.Path.{refl, ◌∙◌}
use native.Mathlib.Omega.{arith}
use Rattle.bytes_steps.specs.Acts.{steps_none}
use Rattle.phase_pick.proofs.Loops.{routers_hold, routers_more}
use Rattle.phase_pick.proofs.routers.Goals as goal

pub loop-r-init : goal.loop-r-init
loop-r-init c = (omega arith, refl, steps_none _ _ _ _, refl)

pub router-requires : goal.router-requires
router-requires c =
    let p = c.requires in let v = c.loop-r.invariant in let l = v.1 in (
      p.0,
      omega arith,
      routers_hold p.0 (omega arith) p.1 v.2,
    )

pub loop-r-preserved : goal.loop-r-preserved
loop-r-preserved c =
    let p = c.requires in let v = c.loop-r.invariant in let l = v.1 in (
      omega arith,
      v.1,
      routers_more p.0 (omega arith) v.2 c.router.ensures,
      c.router.auto.s ∙ v.3,
    )
