use Rattle.bytes_rows.proofs.Wires.{packet_of}
use Rattle.bytes_rows.proofs.packet_at.Goals as goal

pub returns : goal.returns
returns c = packet_of _ _ _ c.from.ensures
