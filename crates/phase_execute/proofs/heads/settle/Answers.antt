use Rattle.phase_execute.proofs.heads.settle.Goals as goal

pub returns : goal.returns
unfolding Rattle.phase_execute.specs.Lent.settled
returns c = rw (← c.lend.ensures) c.put_back.ensures
