use Rattle.bytes_steps.specs.Acts.{steps_none}
use native.Mathlib.Omega.{arith}
use mathlib.Core.Path.{refl, ◌∙◌}
use Rattle.phase_pick.proofs.Loops.{interfaces_hold, interfaces_more}
use Rattle.phase_pick.proofs.interfaces.Goals as goal

pub loop-m-init : goal.loop-m-init
loop-m-init c = (omega arith, refl, steps_none _ _ _ _, refl)

pub interface-requires : goal.interface-requires
interface-requires c =
    let p = c.requires in let v = c.loop-m.invariant in let l = v.1 in
    (p.0, omega arith, interfaces_hold p.0 (omega arith) p.1 v.2)

pub loop-m-preserved : goal.loop-m-preserved
loop-m-preserved c =
    let p = c.requires in let v = c.loop-m.invariant in let l = v.1 in (
      omega arith,
      v.1,
      interfaces_more p.0 (omega arith) v.2 c.interface.ensures,
      c.interface.auto.s ∙ v.3,
    )
