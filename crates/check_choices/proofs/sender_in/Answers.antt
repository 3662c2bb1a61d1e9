use borrow.Author.Tests.{lt-ltb, le-ltb, eq-eqb, ne_eqb}
use Rattle.check_choices.proofs.sender_in.Goals as goal

pub returns-then-k-lt5-clause-sender : goal.returns-then-k-lt5-clause-sender
unfolding Rattle.check_choices.specs.Picks.sender_in
returns-then-k-lt5-clause-sender c =
    simp (lt-ltb _ _ c.if-o-lt4.true, lt-ltb _ _ c.if-k-lt5.true, c.base_of-base.ensures.0)

pub returns-else-k-lt5-clause-sender : goal.returns-else-k-lt5-clause-sender
unfolding Rattle.check_choices.specs.Picks.sender_in
returns-else-k-lt5-clause-sender c = simp (lt-ltb _ _ c.if-o-lt4.true, le-ltb _ _ c.if-k-lt5.false)

pub returns-then-k-lt4-clause-sender : goal.returns-then-k-lt4-clause-sender
unfolding Rattle.check_choices.specs.Picks.sender_in
returns-then-k-lt4-clause-sender c =
    simp (
      le-ltb _ _ c.if-o-lt4.false,
      eq-eqb _ _ c.if-o-eq4.true,
      lt-ltb _ _ c.if-k-lt4.true,
      c.base_of-base.ensures.0,
    )

pub returns-else-k-lt4-clause-sender : goal.returns-else-k-lt4-clause-sender
unfolding Rattle.check_choices.specs.Picks.sender_in
returns-else-k-lt4-clause-sender c =
    simp (le-ltb _ _ c.if-o-lt4.false, eq-eqb _ _ c.if-o-eq4.true, le-ltb _ _ c.if-k-lt4.false)

pub returns-then-k-lt4-2-clause-sender : goal.returns-then-k-lt4-2-clause-sender
unfolding Rattle.check_choices.specs.Picks.sender_in
returns-then-k-lt4-2-clause-sender c =
    simp (
      le-ltb _ _ c.if-o-lt4.false,
      ne_eqb _ _ c.if-o-eq4.false,
      lt-ltb _ _ c.if-k-lt4-2.true,
      c.base_of-base.ensures.0,
    )

pub returns-else-k-lt4-2-clause-sender : goal.returns-else-k-lt4-2-clause-sender
unfolding Rattle.check_choices.specs.Picks.sender_in
returns-else-k-lt4-2-clause-sender c =
    simp (le-ltb _ _ c.if-o-lt4.false, ne_eqb _ _ c.if-o-eq4.false, le-ltb _ _ c.if-k-lt4-2.false)
