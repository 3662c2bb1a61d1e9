use Rattle.check_places.proofs.Exits.{coming_off, coming_setup, coming_tdown, coming_ack, coming_nack}
use Rattle.check_places.proofs.comes.Goals as goal

pub returns-then-v-eq0 : goal.returns-then-v-eq0
returns-then-v-eq0 c = coming_off _ _ _ c.if-v-eq0.true

pub returns-in-Setup : goal.returns-in-Setup
returns-in-Setup c =
    coming_setup _ _ _ c.if-v-eq0.false c.in-Setup.is c.from-hub.ensures

pub returns-in-Tdown : goal.returns-in-Tdown
returns-in-Tdown c =
    coming_tdown _ _ _ c.if-v-eq0.false c.in-Tdown.is c.from-hub.ensures c.frees.ensures

pub returns-in-Ack : goal.returns-in-Ack
returns-in-Ack c = coming_ack _ _ _ c.if-v-eq0.false c.in-Ack.is

pub returns-in-Nack : goal.returns-in-Nack
returns-in-Nack c = coming_nack _ _ _ c.if-v-eq0.false c.in-Nack.is
