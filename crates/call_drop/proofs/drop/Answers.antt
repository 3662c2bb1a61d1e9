use mathlib.Core.Path.{sym, ◌∙◌}
use native.Mathlib.Omega.{arith}
use Rattle.call_common.proofs.Rows.{long, long_still, phase_inside, active_in_inside}
use Rattle.call_drop.proofs.Steps.{drop_ready, head_named}
use Rattle.call_drop.proofs.Exits.{drop_phase, drop_active, drop_flag, drop_empty, drop_unmarked}
use Rattle.call_drop.proofs.Exits.{drops}
use Rattle.call_drop.proofs.drop.Goals as goal

pub bounds-s-0 : goal.bounds-s-0
bounds-s-0 c = phase_inside c.requires.1

pub returns-then-s-from : goal.returns-then-s-from
returns-then-s-from c = drop_phase _ _ _ (λ z. c.if-s-from.true (z ∙ sym c.from.ensures))

pub returns-then-h-active : goal.returns-then-h-active
returns-then-h-active c = drop_active _ _ _ (c.if-s-from.false ∙ c.from.ensures) c.if-h-active.true

pub flag_up-requires : goal.flag_up-requires
flag_up-requires c = (
  c.active_in-row.ensures.1,
  active_in_inside c.requires.1 _ _ c.if-h-active.false
      c.active_in-row.ensures.0,
)

pub returns-then-flag_up : goal.returns-then-flag_up
returns-then-flag_up c =
    drop_flag _ _ _ (c.if-s-from.false ∙ c.from.ensures) c.if-h-active.false _
    c.active_in-row.ensures.0 (sym c.flag_up.ensures ∙ c.if-flag_up.true)

pub queued-requires : goal.queued-requires
queued-requires c = (
  c.active_in-row.ensures.1,
  active_in_inside c.requires.1 _ _ c.if-h-active.false c.active_in-row.ensures.0,
)

pub returns-then-queued-eq0 : goal.returns-then-queued-eq0
returns-then-queued-eq0 c =
    drop_empty _ _ _ (c.if-s-from.false ∙ c.from.ensures) c.if-h-active.false _
    c.active_in-row.ensures.0
    (sym c.flag_up.ensures ∙ c.if-flag_up.false)
    (sym c.queued.ensures ∙ c.if-queued-eq0.true)

pub packet_at-x-requires : goal.packet_at-x-requires
packet_at-x-requires c =
    let l = active_in_inside c.requires.1 _ _ c.if-h-active.false
    c.active_in-row.ensures.0 in omega arith

pub returns-then-is_unmarked : goal.returns-then-is_unmarked
returns-then-is_unmarked c =
    drop_unmarked _ _ _ (c.if-s-from.false ∙ c.from.ensures) c.if-h-active.false _
    c.active_in-row.ensures.0
    (sym c.flag_up.ensures ∙ c.if-flag_up.false)
    (λ z. c.if-queued-eq0.false (c.queued.ensures ∙ z)) _
    c.packet_at-x.ensures (sym c.is_unmarked.ensures ∙ c.if-is_unmarked.true)

pub drop_step-requires : goal.drop_step-requires
drop_step-requires c =
    drop_ready c.requires.0 c.requires.1 _ _ _
    c.if-h-active.false c.active_in-row.ensures.1
    c.active_in-row.ensures.0 c.allowance-byte.ensures
    (λ z. c.if-queued-eq0.false (c.queued.ensures ∙ z))

pub note-requires : goal.note-requires
note-requires c = (
  c.requires.0,
  head_named c.requires.0 c.requires.1 _ _ c.if-h-active.false
      c.active_in-row.ensures.0
      (λ z. c.if-queued-eq0.false (c.queued.ensures ∙ z)) _ c.packet_at-x.ensures,
  long_still (long c.requires.1) c.drop_step.auto.s,
)

pub returns : goal.returns
returns c =
    drops _ _ _ (c.if-s-from.false ∙ c.from.ensures) c.if-h-active.false _
    c.active_in-row.ensures.0
    (sym c.flag_up.ensures ∙ c.if-flag_up.false)
    (λ z. c.if-queued-eq0.false (c.queued.ensures ∙ z)) _
    c.packet_at-x.ensures c.requires.0
    (sym c.is_unmarked.ensures ∙ c.if-is_unmarked.false) _
    c.allowance-byte.ensures _ _ c.drop_step.ensures
    c.note.ensures
