use Rattle.export.proofs.Told.{number_told, shown_told}
use Rattle.export.proofs.pandabrass_look.Goals as goal

pub returns : goal.returns
returns c = (
  number_told c.look-x.ensures c.number_of.ensures,
  shown_told
      c.look-x.ensures _ c.put_shown.ensures,
)
