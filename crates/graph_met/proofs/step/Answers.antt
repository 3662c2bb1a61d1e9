use Rattle.graph_met.proofs.Trailing.{turning_start, stepped_none, stepped_new}
use native.Mathlib.Omega.{arith}
use Rattle.graph_met.proofs.step.Goals as goal

pub returns-then-new-eq0 : goal.returns-then-new-eq0
returns-then-new-eq0 c = stepped_none _ _ _ _ _ c.pull-v.ensures c.less-new.ensures c.if-new-eq0.true

pub sides-requires : goal.sides-requires
sides-requires c = (
  c.requires.0,
  c.requires.1,
  c.requires.2,
  turning_start _ _ _ _ _ _ c.requires.3 c.less-new.ensures,
)

pub returns : goal.returns
returns c =
    let pre = c.requires in
    let led = c.sides in
    stepped_new _ _ _ _ _ _ pre.0 (omega (arith, pre.2, led.auto.up)) c.pull-v.ensures
    c.less-new.ensures led.ensures
