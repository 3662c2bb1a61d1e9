use Rattle.check_places.proofs.Exits.{side_off, side_on}
use Rattle.check_places.proofs.at_side.Goals as goal

pub returns-then-not-comes : goal.returns-then-not-comes
returns-then-not-comes c =
    side_off _ _ _ _ _ _ _ c.spot-v.ensures c.comes.ensures (c.if-not-comes.true)

pub returns : goal.returns
returns c =
    side_on _ _ _ _ _ _ _ c.spot-v.ensures c.comes.ensures (c.if-not-comes.false) c.comes_by.ensures
