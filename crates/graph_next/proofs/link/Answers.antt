use Rattle.std.proofs.Common.{arith, sym}
use Rattle.graph_next.proofs.Onward.{link_none, link_off, link_on}
use Rattle.graph_next.proofs.link.Goals as goal

pub returns-then-m-eq0 : goal.returns-then-m-eq0
returns-then-m-eq0 c = link_none _ _ _ c.if-m-eq0.true

pub returns-in_default : goal.returns-in_default
returns-in_default c = link_off _ _ _ c.if-m-eq0.false (sym c.in_default.ensures) (omega arith)

pub returns : goal.returns
returns c = link_on _ _ _ c.if-m-eq0.false c.in-Some.ensures.0 c.in-Some.ensures.1 c.leaving_by.ensures
