use Rattle.plan.specs.Head.{capacity_at}
use Rattle.plan.proofs.counts.capacity.Goals as goal

pub returns : goal.returns
unfolding capacity_at
returns c = simp c.field.ensures
