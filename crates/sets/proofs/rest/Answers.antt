use Rattle.std.proofs.Common.{refl}
use Rattle.sets.specs.Sets.{rest}
use Rattle.sets.specs.Laws.{rest_less}
use Rattle.sets.proofs.rest.Goals as goal

pub returns : goal.returns
unfolding rest
returns g c = rw (c.narrow.ensures, c.wide-x.ensures.0) (refl, rest_less _ c.requires)
