use Rattle.check_places.proofs.Exits.{spot_off, spot_fits, spot_on}
use Rattle.check_places.proofs.spot.Goals as goal

pub returns-then-not-has : goal.returns-then-not-has
returns-then-not-has c = spot_off _ _ _ c.has.ensures (c.if-not-has.true)

pub overflow_sub-result : goal.overflow_sub-result
overflow_sub-result c =
    spot_fits _ _ _ c.has.ensures (c.if-not-has.false) c.size_of-ahead.ensures c.requires.0 c.requires.1

pub returns : goal.returns
returns c =
    spot_on _ _ _ c.has.ensures (c.if-not-has.false) c.size_of-ahead.ensures
