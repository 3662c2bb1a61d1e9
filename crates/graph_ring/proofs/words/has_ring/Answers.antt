use Rattle.graph_ring.proofs.Going.{left_first, ends_none, ends_still}
use Rattle.graph_ring.proofs.words.has_ring.Goals as goal

pub loop-left-init : goal.loop-left-init
loop-left-init c = left_first _ _ c.requires.2

pub returns-then-down-eq0 : goal.returns-then-down-eq0
returns-then-down-eq0 c =
    ends_none _ _ c.if-down-eq0.true (c.sweep_down-down.ensures.whole c.loop-left.invariant)

pub returns-then-up-left : goal.returns-then-up-left
returns-then-up-left c = ends_still _ _ c.loop-left-test.true
    c.loop-left.invariant c.sweep_down-down.ensures
    c.sweep_up-up.ensures c.if-up-left.true

pub returns : goal.returns
returns c = ends_none _ _ c.loop-left-test.false c.loop-left.invariant
