use Rattle.check_places.proofs.Exits.{behind_small, out_off, out_on}
use Rattle.check_places.proofs.at_out.Goals as goal

pub returns-then-from-o : goal.returns-then-from-o
returns-then-from-o c =
    out_off _ _ _ _ _ _ _ _ c.column_of-d.ensures.0 c.from.ensures c.if-from-o.true

pub leaves-requires : goal.leaves-requires
leaves-requires c = behind_small _ _ _ c.requires.0 c.spot-v.ensures

pub returns : goal.returns
returns c =
    out_on _ _ _ _ _ _ _ _ c.column_of-d.ensures.0 c.from.ensures c.if-from-o.false c.spot-v.ensures c.leaves.ensures
