use Rattle.check_places.proofs.Exits.{received_other, received_own, arrived_other, arrived_own}
use Rattle.check_places.proofs.received.Goals as goal

pub returns-then-n-from : goal.returns-then-n-from
returns-then-n-from c = received_other _ _ _ _ c.if-n-actives.true c.from.ensures c.if-n-from.true

pub returns-then-n-actives : goal.returns-then-n-actives
returns-then-n-actives c =
    received_own _ _ _ _ c.if-n-actives.true c.from.ensures c.if-n-from.false c.active_in.ensures

pub returns-then-n-actives-2 : goal.returns-then-n-actives-2
returns-then-n-actives-2 c = arrived_other _ _ _ _ c.if-n-actives.false c.from-2.ensures c.if-n-actives-2.true

pub returns : goal.returns
returns c =
    arrived_own _ _ _ _ c.if-n-actives.false c.from-2.ensures c.if-n-actives-2.false c.passive_in.ensures
