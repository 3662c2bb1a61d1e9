use Rattle.phase_write.proofs.Halves.{enters}
use Rattle.phase_write.proofs.enter.Goals as goal

pub returns : goal.returns
returns c =
    enters _ _ _ _ c.queue_row-j.ensures
    c.credit_down-c.ensures c.put_wire.ensures
