use Rattle.check_places.proofs.Exits.{answer_setup, answer_tdown, ack_other, ack_far, nack_far, nack_near}
use Rattle.check_places.proofs.answer_by.Goals as goal

pub returns-then-hub-t : goal.returns-then-hub-t
returns-then-hub-t c =
    ack_other _ _ _ _ _ _ _ _ _ _ c.from-hub.ensures c.in-Ack.is c.if-hub-t.true

pub returns-then-hub-t-2 : goal.returns-then-hub-t-2
returns-then-hub-t-2 c =
    nack_far _ _ _ _ _ _ _ _ _ _ c.from-hub.ensures c.in-Nack.is c.if-hub-t-2.true c.far_by-then-hub-t-2.ensures

pub returns-in-Setup : goal.returns-in-Setup
returns-in-Setup c = answer_setup _ _ _ _ _ _ _ _ _ _ c.in-Setup.is

pub returns-in-Tdown : goal.returns-in-Tdown
returns-in-Tdown c = answer_tdown _ _ _ _ _ _ _ _ _ _ c.in-Tdown.is

pub returns-else-hub-t : goal.returns-else-hub-t
returns-else-hub-t c =
    ack_far _ _ _ _ _ _ _ _ _ _ c.from-hub.ensures c.in-Ack.is c.if-hub-t.false c.far_by.ensures

pub returns-else-hub-t-2 : goal.returns-else-hub-t-2
returns-else-hub-t-2 c =
    nack_near _ _ _ _ _ _ _ _ _ _ c.from-hub.ensures c.in-Nack.is c.if-hub-t-2.false c.nack_by.ensures
