use Rattle.check_places.proofs.Exits.{behind_small, unit_off, unit_done, unit_new}
use Rattle.check_places.proofs.at_unit.Goals as goal

pub returns-then-not-comes_by : goal.returns-then-not-comes_by
returns-then-not-comes_by c = unit_off _ _ _ _ _ _ _ c.comes_by.ensures _ (c.if-not-comes_by.true)

pub leaves-requires : goal.leaves-requires
leaves-requires c = behind_small _ _ _ c.requires.0 c.spot-v.ensures

pub returns-then-done : goal.returns-then-done
returns-then-done c =
    unit_done _ _ _ _ _ _ _ c.comes_by.ensures
    (c.if-not-comes_by.false) c.spot-v.ensures _ c.if-done.true
    c.leaves.ensures

pub returns : goal.returns
returns c =
    unit_new _ _ _ _ _ _ _ c.comes_by.ensures
    (c.if-not-comes_by.false) c.spot-v.ensures _ c.if-done.false
    c.comes.ensures
