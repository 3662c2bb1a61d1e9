use mathlib.Core.Path.{refl, ◌∙◌}
use native.Mathlib.Omega.{arith}
use Rattle.basis.specs.Fold.{up_none, up_more, up_done}
use Rattle.bytes_layout.specs.Updates.{move_place}
use Rattle.bytes_rows.proofs.close_up.Goals as goal

pub loop-j-init : goal.loop-j-init
loop-j-init c = (omega arith, up_none _ _, refl)

pub loop-j-preserved : goal.loop-j-preserved
loop-j-preserved c =
    let inv = c.loop-j.invariant in
    let call = c.move_place in
    (omega arith, up_more _ _ _ inv.1 call.ensures, call.auto.s ∙ inv.2)

pub returns : goal.returns
unfolding Rattle.bytes_layout.specs.Updates.close_up
returns c = up_done _ _ c.loop-j.invariant.1 (omega arith)
