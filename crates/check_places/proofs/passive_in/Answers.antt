use Rattle.check_places.proofs.Exits.{passive_in_setup, passive_in_tdown, passive_in_ack, passive_in_nack}
use Rattle.check_places.proofs.passive_in.Goals as goal

pub returns-in-Setup : goal.returns-in-Setup
returns-in-Setup c = passive_in_setup _ _ _ c.from-hub.ensures c.in-Setup.is

pub returns-in-Tdown : goal.returns-in-Tdown
returns-in-Tdown c = passive_in_tdown _ _ _ c.from-hub.ensures c.in-Tdown.is

pub returns-in-Ack : goal.returns-in-Ack
returns-in-Ack c = passive_in_ack _ _ _ c.from-hub.ensures c.in-Ack.is

pub returns-in-Nack : goal.returns-in-Nack
returns-in-Nack c = passive_in_nack _ _ _ c.from-hub.ensures c.in-Nack.is
