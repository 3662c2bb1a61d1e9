use Rattle.std.proofs.Common.{refl, ◌<◌}
use Rattle.sets.specs.Sets.{highest}
use Rattle.sets.specs.Laws.{highest_lt}
use Rattle.sets.proofs.highest.Goals as goal

pub returns : goal.returns
unfolding highest
returns g c =
    let some : 0 < c.wide.result = rw c.wide.ensures.0 c.requires in
    rw (← c.wide.ensures.0) (refl, highest_lt _ c.wide.result g.met.W.Word.room some c.wide.ensures.1)
