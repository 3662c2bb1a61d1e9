use Rattle.check_wires.proofs.Stretches.{full_choice, full_wire, full_kind}
use Rattle.check_wires.proofs.full.Goals as goal

pub returns-then-s-i-ne0 : goal.returns-then-s-i-ne0
returns-then-s-i-ne0 c = full_choice _ _ c.if-s-i-ne0.true

pub returns-then-s-i-ne1 : goal.returns-then-s-i-ne1
returns-then-s-i-ne1 c = full_wire _ _ c.if-s-i-ne0.false c.if-s-i-ne1.true

pub returns : goal.returns
returns c =
    full_kind c.args.s.now _ c.if-s-i-ne0.false
    c.if-s-i-ne1.false
