use native.Mathlib.Omega.{arith}
use Rattle.graph_reach.proofs.Sized.{stepped_same, stepped_row}
use Rattle.graph_reach.proofs.step.Goals as goal

pub returns-then-both-eq0 : goal.returns-then-both-eq0
returns-then-both-eq0 c = stepped_same _ _ _ _ _ _ _ (omega arith) c.pull-v.ensures
    c.less-new.ensures c.both.ensures c.if-both-eq0.true

pub returns : goal.returns
returns c =
    stepped_row _ _ _ _ _ _ _ (omega arith) c.pull-v.ensures
    c.less-new.ensures c.row.ensures
