use Rattle.export.proofs.Told.{number_told, bytes_told}
use Rattle.export.proofs.pandabrass_start.Goals as goal

pub returns : goal.returns
returns c = (
  number_told c.start.ensures c.number_of.ensures,
  bytes_told
      c.start.ensures,
)
