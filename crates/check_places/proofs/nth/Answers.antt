use native.Mathlib.Omega.{arith}
use Rattle.basis.specs.Fold.{up_none, up_more}
use Rattle.check_places.proofs.Exits.{led_at, nth_done}
use Rattle.check_places.proofs.nth.Goals as goal

pub loop-init : goal.loop-init
loop-init c = (omega arith, up_none _ _, omega arith)

pub onward-r-requires : goal.onward-r-requires
onward-r-requires c =
    let inv = c.loop.invariant in
    (c.requires.1, inv.2, led_at _ _ _ inv.1 c.requires.3 (omega arith))

pub loop-preserved : goal.loop-preserved
loop-preserved c =
    let inv = c.loop.invariant in
    (omega arith, up_more _ _ _ inv.1 c.onward-r.ensures.0, c.onward-r.ensures.1)

pub returns : goal.returns
returns c = (nth_done _ _ _ c.loop.invariant.1 (omega arith), c.loop.invariant.2)
