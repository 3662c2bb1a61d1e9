use Rattle.export.proofs.Told.{number_told, bytes_told}
use Rattle.export.proofs.pandabrass_drop.Goals as goal

pub returns : goal.returns
returns c = (
  number_told c.drop.ensures c.number_of.ensures,
  bytes_told
      c.drop.ensures,
)
