use Rattle.export.proofs.Told.{number_told, bytes_told}
use Rattle.export.proofs.pandabrass_launch.Goals as goal

pub returns : goal.returns
returns c = (
  number_told c.launch.ensures c.number_of.ensures,
  bytes_told
      c.launch.ensures,
)
