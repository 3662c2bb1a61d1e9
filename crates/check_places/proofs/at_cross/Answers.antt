use Rattle.check_places.proofs.Exits.{cross_off, cross_on}
use Rattle.check_places.proofs.at_cross.Goals as goal

pub returns-then-from-o : goal.returns-then-from-o
returns-then-from-o c =
    cross_off _ _ _ _ _ _ _ _ _ _ _ c.from-a.ensures c.from.ensures c.if-from-o.true

pub returns : goal.returns
returns c =
    cross_on _ _ _ _ _ _ _ _ _ _ _ c.from-a.ensures c.from.ensures c.if-from-o.false c.answer_by.ensures
