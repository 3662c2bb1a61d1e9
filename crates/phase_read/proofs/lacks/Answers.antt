use Rattle.phase_read.proofs.Awaited.{lacks_down, lacks_up}
use Rattle.phase_read.proofs.lacks.Goals as goal

pub returns-then-s-at-eq0 : goal.returns-then-s-at-eq0
returns-then-s-at-eq0 c =
    lacks_down _ _ _ c.queue_row-at.ensures
    c.from.ensures c.from-2.ensures
    c.from-then-s-at-eq0.ensures c.if-s-at-eq0.true

pub returns : goal.returns
returns c =
    lacks_up _ _ _ c.queue_row-at.ensures
    c.from.ensures c.from-2.ensures
    c.from-3.ensures c.if-s-at-eq0.false
