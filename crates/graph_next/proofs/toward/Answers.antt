use Rattle.std.proofs.Common.{arith, sym}
use Rattle.graph_next.proofs.Onward.{toward_none, toward_off, toward_on}
use Rattle.graph_next.proofs.toward.Goals as goal

pub returns-then-both-eq0 : goal.returns-then-both-eq0
returns-then-both-eq0 c = toward_none _ _ _ _ _ c.both.ensures c.if-both-eq0.true

pub returns-in_default : goal.returns-in_default
returns-in_default c = toward_off _ _ _ _ _ c.both.ensures c.if-both-eq0.false
    (sym c.in_default.ensures) (omega arith)

pub returns : goal.returns
returns c =
    toward_on _ _ _ _ _ c.both.ensures c.if-both-eq0.false
    c.in-Some.ensures.0 c.in-Some.ensures.1 c.single.ensures
