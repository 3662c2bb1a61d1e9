use Rattle.sets.specs.Sets.{both}
use Rattle.sets.proofs.both.Goals as goal

pub returns : goal.returns
unfolding both
returns g c = rw (c.narrow.ensures, c.wide.ensures.0, c.wide-2.ensures.0)
