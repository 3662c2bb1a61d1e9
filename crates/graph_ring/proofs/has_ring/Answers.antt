use Rattle.graph_ring.proofs.Laws.{peeled_first, peeled_down, peeled_up, ends_none, ends_long, ends_still}
use native.Mathlib.Omega.{arith}
use Rattle.graph_ring.proofs.has_ring.Goals as goal

pub loop-k-init : goal.loop-k-init
loop-k-init c = (omega arith, omega arith, peeled_first _ _ c.requires.0 c.first.ensures)

pub returns-then-rest-eq0 : goal.returns-then-rest-eq0
returns-then-rest-eq0 c = ends_none _ _ c.rest.ensures c.if-rest-eq0.true
    (peeled_down _ _ _ c.requires.0
    c.sweep_down.ensures c.loop-k.invariant.2)

pub returns-then-sweep_up-eq0 : goal.returns-then-sweep_up-eq0
returns-then-sweep_up-eq0 c = ends_still _ _
    c.requires.0
    c.rest.ensures c.if-rest-eq0.false (peeled_down _ _ _
    c.requires.0
    c.sweep_down.ensures
    c.loop-k.invariant.2)
    c.sweep_up.ensures.0 (c.sweep_up.ensures.1 c.if-sweep_up-eq0.true)

pub loop-k-preserved : goal.loop-k-preserved
loop-k-preserved c = (
  omega arith,
  c.loop-k.invariant.1,
  peeled_up _ _ _
      c.requires.0
      c.sweep_up.ensures.0 (peeled_down _ _ _
      c.requires.0
      c.sweep_down.ensures
      c.loop-k.invariant.2),
)

pub returns : goal.returns
returns c = ends_long _ _ (omega arith) c.rest-2.ensures c.loop-k.invariant.2
