use Rattle.check_places.proofs.Exits.{sent_other, sent_own, answered_other, answered_own}
use Rattle.check_places.proofs.sent.Goals as goal

pub returns-then-n-from : goal.returns-then-n-from
returns-then-n-from c = sent_other _ _ _ _ c.if-n-actives.true c.from.ensures c.if-n-from.true

pub returns-then-n-actives : goal.returns-then-n-actives
returns-then-n-actives c =
    sent_own _ _ _ _ c.if-n-actives.true c.from.ensures c.if-n-from.false c.active_out.ensures

pub returns-then-n-actives-2 : goal.returns-then-n-actives-2
returns-then-n-actives-2 c = answered_other _ _ _ _ c.if-n-actives.false c.from-2.ensures c.if-n-actives-2.true

pub returns : goal.returns
returns c =
    answered_own _ _ _ _ c.if-n-actives.false c.from-2.ensures c.if-n-actives-2.false c.passive_out.ensures
