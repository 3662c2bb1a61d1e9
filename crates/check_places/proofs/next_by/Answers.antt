use Rattle.check_places.proofs.Exits.{next_none, next_off, next_on}
use Rattle.check_places.proofs.next_by.Goals as goal

pub returns-then-v-ne1 : goal.returns-then-v-ne1
returns-then-v-ne1 c = next_none _ _ _ _ _ c.from-v.ensures c.if-v-ne1.true

pub returns-then-not-has : goal.returns-then-not-has
returns-then-not-has c =
    next_off _ _ _ _ _ c.from-v.ensures c.if-v-ne1.false c.has.ensures (c.if-not-has.true)

pub returns : goal.returns
returns c =
    next_on _ _ _ _ _ c.from-v.ensures c.if-v-ne1.false c.has.ensures (c.if-not-has.false) c.has-2.ensures
