use native.Mathlib.Omega.{arith}
use mathlib.Core.Path.{refl, ◌∙◌}
use Rattle.phase_pick.proofs.Loops.{from_none, sides_hold, sides_more}
use Rattle.phase_pick.proofs.sides.Goals as goal

pub loop-o-init : goal.loop-o-init
loop-o-init c = let p = c.requires in (omega arith, from_none p.0 p.1 _, refl)

pub side-requires : goal.side-requires
side-requires c =
    let p = c.requires in (
      p.0,
      p.1,
      c.loop-o-test.true,
      sides_hold p.0 p.1 c.loop-o-test.true p.2 c.loop-o.invariant.1,
    )

pub loop-o-preserved : goal.loop-o-preserved
loop-o-preserved c =
    let p = c.requires in (
      omega arith,
      sides_more p.0 p.1 c.loop-o-test.true c.loop-o.invariant.1
          c.side.ensures,
      c.side.auto.s ∙ c.loop-o.invariant.2,
    )
