use Rattle.std.proofs.Common.{arith, refl, ◌<◌, ◌-◌}
use Rattle.sets.specs.Sets.{lowest}
use Rattle.sets.specs.Laws.{lowest_lt}
use Rattle.sets.proofs.lowest.Goals as goal

pub returns : goal.returns
unfolding lowest
returns g c =
    let room = g.met.W.Word.room in
    let some : 0 < c.wide.result = rw c.wide.ensures.0 c.requires in
    rw (← c.wide.ensures.0)
    (refl, lowest_lt _ (64 - g.W.Word.digits) c.wide.result (omega arith) some c.wide.ensures.1)
