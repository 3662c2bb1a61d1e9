use Rattle.std.proofs.Common.{arith, ◌∙◌}
use Rattle.sets.specs.Laws.{less_code}
use Rattle.sets.proofs.less.Goals as goal

pub returns : goal.returns
returns g c =
    rw (← c.wide.ensures.0, ← c.wide-2.ensures.0)
    (c.narrow.ensures ∙ less_code 64 c.wide.result c.wide-2.result (omega arith) (omega arith))
