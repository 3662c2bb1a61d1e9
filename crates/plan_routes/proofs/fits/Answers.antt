use mathlib.Core.Path.{refl}
use Rattle.plan_routes.specs.Marks.{fits_of}
use Rattle.plan_routes.proofs.fits.Goals as goal

pub returns : goal.returns
unfolding fits_of
returns c = refl
