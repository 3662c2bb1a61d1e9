use Rattle.export.proofs.Told.{number_told, bytes_told}
use Rattle.export.proofs.pandabrass_execute.Goals as goal

pub returns : goal.returns
returns c = (
  number_told c.execute.ensures c.number_of.ensures,
  bytes_told
      c.execute.ensures,
)
