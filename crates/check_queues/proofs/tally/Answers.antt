use Rattle.check_queues.proofs.tally.Goals as goal

pub returns : goal.returns
unfolding Rattle.check_frames.specs.Tally.tallied
returns c = simp (c.counted.ensures, c.spends.ensures.0, c.from-a.ensures)
