use native.Mathlib.Omega.{arith}
use Rattle.graph_flow.proofs.Laws.{round_first, ends_off, ends_long}
use Rattle.graph_flow.proofs.spread.Goals as goal

pub loop-k-init : goal.loop-k-init
loop-k-init c = (omega arith, c.below-all.ensures, round_first _ _ _ _ _ c.requires.1 c.requires.2)

pub returns-then-both-eq0 : goal.returns-then-both-eq0
returns-then-both-eq0 c = ends_off _ _ _ _
    c.loop-k.invariant.1 c.both.ensures c.if-both-eq0.true
    (c.sweep_up-work.ensures _ _ c.loop-k.invariant.2)

pub loop-k-preserved : goal.loop-k-preserved
loop-k-preserved c = (
  omega arith,
  c.loop-k.invariant.1,
  c.sweep_down-work.ensures _ _ (c.sweep_up-work.ensures _ _
      c.loop-k.invariant.2),
)
