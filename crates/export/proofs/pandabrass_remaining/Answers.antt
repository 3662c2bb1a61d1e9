use Rattle.export.proofs.Told.{number_told, remaining_told}
use Rattle.export.proofs.pandabrass_remaining.Goals as goal

pub returns : goal.returns
returns c = (
  number_told c.remaining-x.ensures c.number_of.ensures,
  remaining_told
      c.remaining-x.ensures _ c.put_remaining.ensures,
)
