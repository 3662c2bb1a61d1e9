use Rattle.phase_unit.proofs.Exits.{of_setup, of_tdown, of_ack, of_nack}
use Rattle.phase_unit.proofs.handled.Goals as goal

pub returns-in-Setup : goal.returns-in-Setup
returns-in-Setup c = of_setup _ _ _ c.in-Setup.is c.set_up.ensures c.stay.ensures

pub returns-in-Tdown : goal.returns-in-Tdown
returns-in-Tdown c = of_tdown _ _ _ c.in-Tdown.is c.tear_down.ensures

pub returns-in-Ack : goal.returns-in-Ack
returns-in-Ack c = of_ack _ _ _ c.in-Ack.is

pub returns-in-Nack : goal.returns-in-Nack
returns-in-Nack c = of_nack _ _ _ c.in-Nack.is
