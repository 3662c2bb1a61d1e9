use Rattle.sets.specs.Laws.{in_code}
use Rattle.sets.proofs.has.Goals as goal

pub returns : goal.returns
returns g c = rw (← c.wide.ensures.0) (in_code _ _)
