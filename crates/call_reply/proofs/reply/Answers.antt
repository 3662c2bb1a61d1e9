use mathlib.Core.Path.{sym, ◌∙◌}
use native.Mathlib.Omega.{arith}
use Rattle.call_common.proofs.Rows.{phase_inside, passive_in_inside}
use Rattle.call_reply.proofs.Steps.{reply_ready}
use Rattle.call_reply.proofs.Exits.{reply_phase, reply_passive, reply_choice, reply_flag, reply_empty, reply_full}
use Rattle.call_reply.proofs.Exits.{replies}
use Rattle.call_reply.proofs.reply.Goals as goal

pub bounds-s-0 : goal.bounds-s-0
bounds-s-0 c = phase_inside c.requires.1

pub returns-then-s-from : goal.returns-then-s-from
returns-then-s-from c = reply_phase _ _ _ _ (λ z. c.if-s-from.true (z ∙ sym c.from.ensures))

pub returns-then-h-passive : goal.returns-then-h-passive
returns-then-h-passive c = reply_passive _ _ _ _ (c.if-s-from.false ∙ c.from.ensures) c.if-h-passive.true

pub returns-then-choice-gt1 : goal.returns-then-choice-gt1
returns-then-choice-gt1 c =
    reply_choice _ _ _ _ (c.if-s-from.false ∙ c.from.ensures) c.if-h-passive.false c.if-choice-gt1.true

pub flag_up-requires : goal.flag_up-requires
flag_up-requires c = (
  c.passive_in-from.ensures.1,
  passive_in_inside c.requires.1 _ _ c.if-h-passive.false
      c.passive_in-from.ensures.0,
)

pub returns-then-flag_up : goal.returns-then-flag_up
returns-then-flag_up c =
    reply_flag _ _ _ _ (c.if-s-from.false ∙ c.from.ensures) c.if-h-passive.false
    c.if-choice-gt1.false _ c.passive_in-from.ensures.0
    (sym c.flag_up.ensures ∙ c.if-flag_up.true)

pub queued-requires : goal.queued-requires
queued-requires c = (
  c.passive_in-from.ensures.1,
  passive_in_inside c.requires.1 _ _ c.if-h-passive.false
      c.passive_in-from.ensures.0,
)

pub returns-then-queued-eq0 : goal.returns-then-queued-eq0
returns-then-queued-eq0 c =
    reply_empty _ _ _ _ (c.if-s-from.false ∙ c.from.ensures) c.if-h-passive.false c.if-choice-gt1.false _
    c.passive_in-from.ensures.0
    (sym c.flag_up.ensures ∙ c.if-flag_up.false)
    (sym c.queued.ensures ∙ c.if-queued-eq0.true)

pub returns-then-h-queued : goal.returns-then-h-queued
returns-then-h-queued c =
    reply_full _ _ _ _ (c.if-s-from.false ∙ c.from.ensures) c.if-h-passive.false c.if-choice-gt1.false _
    c.passive_in-from.ensures.0
    (sym c.flag_up.ensures ∙ c.if-flag_up.false)
    (λ z. c.if-queued-eq0.false (c.queued.ensures ∙ z)) c.passive_out-to.result
    c.passive_out-to.ensures.0
    (omega (arith, c.queued-2.ensures))

pub reply_step-requires : goal.reply_step-requires
reply_step-requires c =
    reply_ready c.requires.0 c.requires.1 _ _ _
    c.if-h-passive.false c.passive_in-from.ensures.1
    c.passive_in-from.ensures.0 c.passive_out-to.ensures.0
    (λ z. c.if-queued-eq0.false (c.queued.ensures ∙ z))
    (omega (arith, c.queued-2.ensures))

pub returns : goal.returns
returns c =
    replies _ _ _ _ (c.if-s-from.false ∙ c.from.ensures) c.if-h-passive.false
    c.if-choice-gt1.false _ c.passive_in-from.ensures.0
    (sym c.flag_up.ensures ∙ c.if-flag_up.false)
    (λ z. c.if-queued-eq0.false (c.queued.ensures ∙ z))
    c.passive_out-to.result c.passive_out-to.ensures.0
    c.requires.0 (omega (arith, c.queued-2.ensures)) _
    c.reply_step.ensures
