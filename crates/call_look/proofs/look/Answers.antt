use mathlib.Core.Path.{sym, ◌∙◌}
use native.Mathlib.Omega.{arith}
use Rattle.call_common.proofs.Rows.{active_in_inside}
use Rattle.call_look.proofs.Exits.{look_active, look_empty, looked}
use Rattle.call_look.proofs.look.Goals as goal

pub returns-then-h-active : goal.returns-then-h-active
returns-then-h-active c = look_active _ _ _ c.if-h-active.true

pub queued-requires : goal.queued-requires
queued-requires c = (
  c.active_in-row.ensures.1,
  active_in_inside c.requires.1 _ _ c.if-h-active.false c.active_in-row.ensures.0,
)

pub returns-then-queued-eq0 : goal.returns-then-queued-eq0
returns-then-queued-eq0 c =
    look_empty _ _ _ c.if-h-active.false _ c.active_in-row.ensures.0
    (sym c.queued.ensures ∙ c.if-queued-eq0.true)

pub packet_at-x-requires : goal.packet_at-x-requires
packet_at-x-requires c =
    let l = active_in_inside c.requires.1 _ _ c.if-h-active.false
    c.active_in-row.ensures.0 in omega arith

pub returns : goal.returns
returns c =
    looked _ _ _ c.if-h-active.false _ c.active_in-row.ensures.0
    (λ z. c.if-queued-eq0.false (c.queued.ensures ∙ z)) _ c.packet_at-x.ensures
