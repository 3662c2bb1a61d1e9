use mathlib.Core.Path.{refl}
use Rattle.call_start.proofs.Begins.{laid_as}
use Rattle.call_start.proofs.lay_table.Goals as goal

pub returns : goal.returns
unfolding Rattle.call_start.specs.Starting.copies
returns g c = laid_as _ g.row.N 0 _ c.requires.2 c.table_row.ensures refl c.lay.ensures
