use mathlib.Core.Path.{refl, ap, ◌∙◌}
use native.Mathlib.Omega.{arith}
use Rattle.basis.specs.Fold.{up_none, up_more}
use Rattle.call_start.specs.Starting.{filled}
use Rattle.call_start.proofs.Begins.{inner_turns_as}
use Rattle.call_start.proofs.inner_turns.Goals as goal

pub loop-r-init : goal.loop-r-init
loop-r-init c = (omega arith, up_none _ _, refl)

pub loop-r-preserved : goal.loop-r-preserved
loop-r-preserved c =
    let l = c.loop-r in
    let y = c.fill in
    let z = c.fill-in-loop-r in (
      omega arith,
      up_more _ _ _ l.invariant.1 (z.ensures ∙ ap (filled _ 2 3) y.ensures),
      z.auto.s ∙ y.auto.s ∙ l.invariant.2,
    )

pub returns : goal.returns
returns c = inner_turns_as _ _ c.turn_row-at.ensures (omega arith) c.loop-r.invariant.1
