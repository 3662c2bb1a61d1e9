use native.Mathlib.Omega.{arith}
use mathlib.Core.Path.{sym, ◌∙◌}
use Rattle.graph_reach.proofs.Sized.{grows_on}
use Rattle.graph_reach.proofs.Sweeps.{round_none, round_more, end_closed, end_full}
use Rattle.graph_reach.proofs.reach.Goals as goal

pub loop-k-init : goal.loop-k-init
loop-k-init c = (omega arith, round_none _ _ _ _ c.requires.4, λ first told w. w)

pub returns-then-new-eq0 : goal.returns-then-new-eq0
returns-then-new-eq0 c = (
  end_closed _ _ _ _ _ _ _ c.requires.0
      c.requires.3
      c.loop-k.invariant.1
      c.sweep_up-new.ensures.0
      (c.sweep_up-new.ensures.1 c.if-new-eq0.true),
  c.common.ensures,
  grows_on _ _ _ _ c.loop-k.invariant.2
      c.sweep_up-new.ensures.2,
)

pub returns-then-all-s : goal.returns-then-all-s
returns-then-all-s c = (
  end_full _ _ _ _ _ _ _ (round_more _ _ _ _ _ _
      c.requires.0
      c.requires.3
      c.loop-k.invariant.1
      c.sweep_up-new.ensures.0
      c.sweep_down.ensures.0)
      (sym c.common-all.ensures ∙ c.if-all-s.true),
  c.common-all.ensures,
  grows_on _ _ _ _
      c.loop-k.invariant.2
      (grows_on _ _ _ _ c.sweep_up-new.ensures.2
      c.sweep_down.ensures.1),
)

pub loop-k-preserved : goal.loop-k-preserved
loop-k-preserved c = (
  omega arith,
  round_more _ _ _ _ _ _
      c.requires.0
      c.requires.3
      c.loop-k.invariant.1
      c.sweep_up-new.ensures.0
      c.sweep_down.ensures.0,
  grows_on _ _ _ _
      c.loop-k.invariant.2
      (grows_on _ _ _ _ c.sweep_up-new.ensures.2
      c.sweep_down.ensures.1),
)
