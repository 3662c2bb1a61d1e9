use Rattle.phase_write.proofs.Halves.{takes}
use Rattle.phase_write.proofs.take.Goals as goal

pub returns : goal.returns
returns c =
    takes _ _ _ c.packet_at-x.ensures
    c.pop.ensures c.raise.ensures
