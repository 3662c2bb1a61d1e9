use Rattle.sets.specs.Sets.{either}
use Rattle.std.proofs.lemmas.Nat.{or_lt}
use Rattle.sets.proofs.either.Goals as goal

pub narrow-requires : goal.narrow-requires
narrow-requires g c = or_lt _ _ _ c.wide.ensures.1 c.wide-2.ensures.1

pub returns : goal.returns
unfolding either
returns g c = rw (c.narrow.ensures, c.wide.ensures.0, c.wide-2.ensures.0)
