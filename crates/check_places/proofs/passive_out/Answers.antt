use Rattle.check_places.proofs.Exits.{passive_out_setup, passive_out_tdown, passive_out_ack, passive_out_nack}
use Rattle.check_places.proofs.passive_out.Goals as goal

pub returns-in-Setup : goal.returns-in-Setup
returns-in-Setup c = passive_out_setup _ _ _ c.from-hub.ensures c.in-Setup.is

pub returns-in-Tdown : goal.returns-in-Tdown
returns-in-Tdown c = passive_out_tdown _ _ _ c.from-hub.ensures c.in-Tdown.is

pub returns-in-Ack : goal.returns-in-Ack
returns-in-Ack c = passive_out_ack _ _ _ c.from-hub.ensures c.in-Ack.is

pub returns-in-Nack : goal.returns-in-Nack
returns-in-Nack c = passive_out_nack _ _ _ c.from-hub.ensures c.in-Nack.is
