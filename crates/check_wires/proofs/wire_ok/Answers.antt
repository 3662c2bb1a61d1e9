use Rattle.check_wires.proofs.Outgoing.{wire_refused, wire_checked}
use Rattle.check_wires.proofs.Carrying.{table_head}
use Rattle.check_wires.proofs.wire_ok.Goals as goal

pub returns-then-not-full : goal.returns-then-not-full
returns-then-not-full c =
    let p = c.requires in
    wire_refused _ _ (table_head p.0) _ _ p.1 _ p.5 _ _ _ _ c.full.ensures p.4 p.6
    (c.if-not-full.true)

pub joins-requires : goal.joins-requires
joins-requires c = let p = c.requires in (p.0, p.1, p.2)

pub returns : goal.returns
returns c =
    let p = c.requires in
    wire_checked _ _ (table_head p.0) _ _ p.1 _ p.5 _ _ _ _
    c.full.ensures p.4 (c.if-not-full.false) _ c.packet_at-x.ensures
    c.joins.ensures
