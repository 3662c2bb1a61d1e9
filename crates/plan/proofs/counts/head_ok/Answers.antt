use Rattle.plan.specs.Head.{head_ok}
use Rattle.plan.proofs.counts.head_ok.Goals as goal

pub returns : goal.returns
unfolding head_ok
returns c = simp (c.counts_ok.ensures, c.capacities_ok.ensures)
