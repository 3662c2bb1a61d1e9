use mathlib.Core.Path.{sym, ◌∙◌}
use native.Mathlib.Omega.{arith}
use Rattle.call_common.proofs.Rows.{passive_few, slot_few, active_out_inside, starts_inside}
use Rattle.call_close.proofs.Steps.{close_ready}
use Rattle.call_close.proofs.Exits.{close_begins, close_unaccepted, close_full, closes}
use Rattle.call_close.proofs.close.Goals as goal

pub returns-in-Err : goal.returns-in-Err
returns-in-Err c = c.in-Err.ensures _ (close_begins _ _ _)

pub has-requires : goal.has-requires
has-requires c =
    let o = c.in-Ok.ensures in (
      starts_inside c.requires.1 _ _ _ o.active (passive_few _ c.requires.0 o.passive) c.starts-at.ensures,
      slot_few _ c.requires.0 o.slot,
    )

pub returns-then-not-has : goal.returns-then-not-has
returns-then-not-has c =
    close_unaccepted c.in-Ok.ensures c.requires.0 _ c.starts-at.ensures (sym c.has.ensures ∙ c.if-not-has.true)

pub queued-requires : goal.queued-requires
queued-requires c = (
  c.active_out-row.ensures.1,
  active_out_inside c.requires.1 _ _ c.in-Ok.ensures.active c.active_out-row.ensures.0,
)

pub returns-then-h-queued : goal.returns-then-h-queued
returns-then-h-queued c =
    close_full c.in-Ok.ensures c.requires.0 _ c.starts-at.ensures (sym c.has.ensures ∙ c.if-not-has.false)
    c.active_out-row.result c.active_out-row.ensures.0 (omega (arith, c.queued.ensures))

pub close_step-requires : goal.close_step-requires
close_step-requires c =
    let o = c.in-Ok.ensures in
    close_ready c.requires.0 c.requires.1 _ _ o.active o.passive o.slot c.active_out-row.ensures.0
    c.starts-at.ensures (omega (arith, c.queued.ensures))

pub returns : goal.returns
returns c =
    closes c.in-Ok.ensures c.requires.0 _ c.starts-at.ensures (sym c.has.ensures ∙ c.if-not-has.false)
    c.active_out-row.result c.active_out-row.ensures.0 (omega (arith, c.queued.ensures)) _ c.close_step.ensures
