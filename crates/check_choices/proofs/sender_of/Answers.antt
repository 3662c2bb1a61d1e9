use borrow.Author.Tests.{lt-ltb, le-ltb, eq-eqb, ne_eqb}
use Rattle.check_choices.proofs.sender_of.Goals as goal

pub returns-then-k-eq0-clause-sender : goal.returns-then-k-eq0-clause-sender
unfolding Rattle.check_choices.specs.Picks.sender_of
returns-then-k-eq0-clause-sender c = simp (lt-ltb _ _ c.if-m-d.true, eq-eqb _ _ c.if-k-eq0.true)

pub returns-else-k-eq0-clause-sender : goal.returns-else-k-eq0-clause-sender
unfolding Rattle.check_choices.specs.Picks.sender_of
returns-else-k-eq0-clause-sender c = simp (lt-ltb _ _ c.if-m-d.true, ne_eqb _ _ c.if-k-eq0.false)

pub returns-clause-sender : goal.returns-clause-sender
unfolding Rattle.check_choices.specs.Picks.sender_of
returns-clause-sender c = simp (le-ltb _ _ c.if-m-d.false, c.sender_in.ensures.sender)
