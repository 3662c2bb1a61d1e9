use native.Mathlib.Omega.{arith}
use mathlib.Core.Path.{sym}
use Rattle.graph_links.proofs.Laws.{cross_off, cross_out, cross_none, cross_on, mask_is}
use Rattle.graph_links.proofs.cross.Goals as goal

pub returns-in_default : goal.returns-in_default
returns-in_default c = cross_off _ _ _ (sym c.in_default.ensures) (omega arith)

pub returns-in_default-partner : goal.returns-in_default-partner
returns-in_default-partner c = cross_out _ _ _ c.in-Some.ensures.0 c.in-Some.ensures.1
    (sym c.in_default-partner.ensures) (omega arith)

pub returns-then-m-eq0 : goal.returns-then-m-eq0
returns-then-m-eq0 c = cross_none _ _ _ c.in-Some.ensures.0 c.in-Some.ensures.1
    c.in-Some-partner.ensures.0 c.in-Some-partner.ensures.1
    c.both-m.ensures c.if-m-eq0.true

pub returns : goal.returns
returns c =
    cross_on _ _ _ c.in-Some.ensures.0 c.in-Some.ensures.1
    c.in-Some-partner.ensures.0 c.in-Some-partner.ensures.1
    c.both-m.ensures c.if-m-eq0.false (mask_is _ _ _ c.leaving_by.ensures).0 c.cell.ensures

pub cell-requires : goal.cell-requires
cell-requires c = (c.in-Some-partner.ensures.1, (mask_is _ _ _ c.leaving_by.ensures).1)
