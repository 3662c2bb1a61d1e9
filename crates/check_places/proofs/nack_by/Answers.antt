use Rattle.check_places.proofs.Exits.{nack_none, nack_some}
use Rattle.check_places.proofs.nack_by.Goals as goal

pub returns-then-t-hub : goal.returns-then-t-hub
returns-then-t-hub c = nack_none _ _ _ _ _ _ _ _ c.from-hub.ensures c.if-t-hub.true

pub returns : goal.returns
returns c =
    nack_some _ _ _ _ _ _ _ _ c.from-hub.ensures c.if-t-hub.false c.from-a.ensures c.nth-r.ensures.0
    c.next_by.ensures
