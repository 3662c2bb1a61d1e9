use Rattle.phase_write.proofs.Senders.{sender_out, sender_side, sender_unit, sender_from}
use Rattle.phase_write.proofs.sender_of.Goals as goal

pub returns-then-m-n : goal.returns-then-m-n
returns-then-m-n c = sender_out _ _ _ c.if-m-n.true

pub returns-then-o-lt4 : goal.returns-then-o-lt4
returns-then-o-lt4 c = sender_side _ _ _ c.if-m-n.false c.base_of-base.ensures.0 c.if-o-lt4.true

pub returns-then-o-eq4 : goal.returns-then-o-eq4
returns-then-o-eq4 c =
    sender_unit _ _ _ c.if-m-n.false c.base_of-base.ensures.0
    c.if-o-lt4.false c.if-o-eq4.true

pub returns : goal.returns
returns c =
    sender_from _ _ _ c.if-m-n.false c.base_of-base.ensures.0
    c.if-o-lt4.false c.if-o-eq4.false
