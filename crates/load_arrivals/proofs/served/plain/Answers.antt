use Rattle.load_arrivals.specs.Pairs.{plain_of}
use borrow.Author.Tests.{eq-eqb, ne_eqb}
use Rattle.load_arrivals.proofs.served.plain.Goals as goal

pub returns-then-v-eq0 : goal.returns-then-v-eq0
unfolding plain_of
returns-then-v-eq0 c = rw (eq-eqb _ _ c.if-v-eq0.true)

pub returns : goal.returns
unfolding plain_of
returns c = rw (ne_eqb _ _ c.if-v-eq0.false) c.has.ensures
