use Rattle.graph_met.proofs.Trailing.{trailed_more, room_of}
use Rattle.graph_reach.proofs.Sweeps.{round_none, round_more, end_closed, end_full}
use mathlib.Core.Path.{refl, sym, ◌∙◌}
use native.Mathlib.Omega.{arith}
use Rattle.graph_met.proofs.rounds.Goals as goal

pub loop-k-init : goal.loop-k-init
loop-k-init c = (omega arith, round_none _ _ _ _ c.requires.4.long, refl, c.requires.4)

pub returns-then-new-eq0 : goal.returns-then-new-eq0
returns-then-new-eq0 c =
    let pre = c.requires in
    let inv = c.loop-k.invariant in
    let up = c.sweep_up-new in (
      end_closed _ _ _ _ _ _ _ pre.0 pre.2 inv.1 up.ensures.0 (up.ensures.1 c.if-new-eq0.true),
      (_, up.ensures.2 _ _ inv.3),
    )

pub sweep_down-requires : goal.sweep_down-requires
sweep_down-requires c =
    let pre = c.requires in
    let inv = c.loop-k.invariant in
    let up = c.sweep_up-new in (
      pre.0,
      pre.1,
      omega (arith, pre.3, inv.2, up.auto.up),
      room_of _ _ _ _ (up.ensures.2 _ _ inv.3) (omega arith),
    )

pub returns-then-common-full : goal.returns-then-common-full
returns-then-common-full c =
    let pre = c.requires in
    let inv = c.loop-k.invariant in
    let up = c.sweep_up-new in
    let down = c.sweep_down in (
      end_full _ _ _ _ _ _ _ (round_more _ _ _ _ _ _ pre.0 pre.2 inv.1 up.ensures.0 down.ensures.0)
          (sym c.common.ensures ∙ c.if-common-full.true),
      (_, down.ensures.1 _ _ (up.ensures.2 _ _ inv.3)),
    )

pub loop-k-preserved : goal.loop-k-preserved
loop-k-preserved c =
    let pre = c.requires in
    let inv = c.loop-k.invariant in
    let up = c.sweep_up-new in
    let down = c.sweep_down in (
      omega arith,
      round_more _ _ _ _ _ _ pre.0 pre.2 inv.1 up.ensures.0 down.ensures.0,
      down.auto.up ∙ up.auto.up ∙ inv.2,
      trailed_more _ _ _ (omega arith) (down.ensures.1 _ _ (up.ensures.2 _ _ inv.3)),
    )
