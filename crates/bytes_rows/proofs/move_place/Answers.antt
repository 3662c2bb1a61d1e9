use mathlib.Core.Path.{refl}
use Rattle.bytes_rows.proofs.move_place.Goals as goal

pub returns : goal.returns
unfolding Rattle.bytes_layout.specs.Updates.move_place
returns c = refl
