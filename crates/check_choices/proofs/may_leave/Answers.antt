use Rattle.check_choices.proofs.may_leave.Goals as goal

pub returns-then-unit_at : goal.returns-then-unit_at
unfolding Rattle.check_choices.specs.Picks.may_leave_at
returns-then-unit_at c = simp (← c.unit_at.ensures, c.if-unit_at.true)

pub returns : goal.returns
unfolding Rattle.check_choices.specs.Picks.may_leave_at
returns c = simp (← c.unit_at.ensures, c.if-unit_at.false)
