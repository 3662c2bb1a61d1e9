use mathlib.Core.Path.{refl, ◌∙◌}
use native.Mathlib.Omega.{arith}
use Rattle.bytes_steps.specs.Acts.{steps_none}
use Rattle.phase_execute.proofs.Needs.{units_hold, units_more}
use Rattle.phase_execute.proofs.heads.heads.Goals as goal

pub loop-m-init : goal.loop-m-init
loop-m-init c = (omega arith, refl, steps_none _ _ _ _, refl)

pub unit_at-requires : goal.unit_at-requires
unit_at-requires c =
    let p = c.requires in let v = c.loop-m.invariant in let l = v.1 in (
      p.0,
      omega arith,
      omega arith,
      units_hold p.0 (omega arith) p.1 v.2,
    )

pub loop-m-preserved : goal.loop-m-preserved
loop-m-preserved c =
    let p = c.requires
    in let v = c.loop-m.invariant in let l = v.1 in (
      omega arith,
      v.1,
      units_more p.0 (omega arith) v.2 c.unit_at.ensures,
      c.unit_at.auto.s ∙ v.3,
    )
