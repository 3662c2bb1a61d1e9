use Rattle.check_places.proofs.Law.{in_range, ready, fits_is}
use Rattle.check_places.proofs.fits.Goals as goal

pub trip_of-t-requires : goal.trip_of-t-requires
trip_of-t-requires c = in_range c.requires.1

pub looked-requires : goal.looked-requires
looked-requires c = ready _ c.requires.1 c.trip_of-t.ensures

pub returns : goal.returns
returns c = λ h asked. fits_is _ asked c.trip_of-t.ensures _ _ c.looked.ensures
