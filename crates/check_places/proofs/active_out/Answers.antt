use Rattle.check_places.proofs.Exits.{active_out_setup, active_out_tdown, active_out_ack, active_out_nack}
use Rattle.check_places.proofs.active_out.Goals as goal

pub returns-in-Setup : goal.returns-in-Setup
returns-in-Setup c = active_out_setup _ _ _ c.from-hub.ensures c.in-Setup.is

pub returns-in-Tdown : goal.returns-in-Tdown
returns-in-Tdown c =
    active_out_tdown _ _ _ c.from-hub.ensures c.in-Tdown.is c.frees.ensures

pub returns-in-Ack : goal.returns-in-Ack
returns-in-Ack c = active_out_ack _ _ _ c.from-hub.ensures c.in-Ack.is

pub returns-in-Nack : goal.returns-in-Nack
returns-in-Nack c = active_out_nack _ _ _ c.from-hub.ensures c.in-Nack.is
