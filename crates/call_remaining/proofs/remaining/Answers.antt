use Rattle.call_remaining.proofs.Count.{told}
use Rattle.call_remaining.proofs.remaining.Goals as goal

pub returns : goal.returns
returns c = told c.packets-n.ensures.0 c.from.ensures
