use Rattle.check_places.proofs.Exits.{trip_is}
use Rattle.check_places.proofs.trip_of.Goals as goal

pub returns : goal.returns
returns c =
    trip_is _ _ _ _ c.from-a.ensures
    c.from-p.ensures c.from-home.ensures
    c.from-length.ensures
