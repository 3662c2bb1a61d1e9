use Rattle.export.proofs.Told.{number_told, entry_told}
use Rattle.export.proofs.pandabrass_entry.Goals as goal

pub returns : goal.returns
returns c = (
  number_told c.entry-x.ensures c.number_of.ensures,
  entry_told
      c.entry-x.ensures _ c.put_entry.ensures,
)
