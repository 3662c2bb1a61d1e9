use Rattle.bytes_rows.proofs.Joining.{pushed}
use Rattle.bytes_rows.proofs.push.Goals as goal

pub returns : goal.returns
returns c = pushed _ _ _ _ _ c.from.ensures c.put_packet.ensures
