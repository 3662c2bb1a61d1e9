use Rattle.call_start.proofs.lay_same.Goals as goal

pub returns : goal.returns
unfolding Rattle.call_start.specs.Starting.copies
returns c = c.lay_credits.ensures
