use Rattle.check_places.proofs.Exits.{comes_here, comes_later}
use Rattle.check_places.proofs.comes_by.Goals as goal

pub returns-then-from-port : goal.returns-then-from-port
returns-then-from-port c = comes_here _ _ _ _ _ _ c.if-from-port.true

pub returns : goal.returns
returns c = comes_later _ _ _ _ _ _ c.if-from-port.false c.next_by.ensures
