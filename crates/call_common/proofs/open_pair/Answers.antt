use mathlib.Core.Path.{sym, ◌∙◌}
use native.Mathlib.Omega.{arith}
use Rattle.call_common.proofs.Rows.{phase_inside}
use Rattle.call_common.proofs.Pairs.{phase_refused, active_refused, passive_refused, slot_refused, pair_refused}
use Rattle.call_common.proofs.open_pair.Goals.{then-h-active-via-then-h-active}
use Rattle.call_common.proofs.open_pair.Goals.{then-h-active-via-else-h-active+then-h-passive}
use Rattle.call_common.proofs.open_pair.Goals.{then-h-active-via-else-h-active+else-h-passive+then-from-slot}
use Rattle.call_common.proofs.open_pair.Goals as goal

pub bounds-s-0 : goal.bounds-s-0
bounds-s-0 c = phase_inside c.requires.1

pub returns-then-s-from : goal.returns-then-s-from
returns-then-s-from c = λ v of. phase_refused of _ _ _ (λ z. c.if-s-from.true (z ∙ sym c.from.ensures))

pub returns-then-h-active : goal.returns-then-h-active
returns-then-h-active c =
    λ v of. elim c.then-h-active.branch [
      | then-h-active-via-then-h-active w ↦
          active_refused of _ _ _ (c.if-s-from.false ∙ c.from.ensures) w.if-h-active.true
      | then-h-active-via-else-h-active+then-h-passive w ↦
          passive_refused of _ _ _ (c.if-s-from.false ∙ c.from.ensures) w.if-h-active.false w.if-h-passive.true
      | then-h-active-via-else-h-active+else-h-passive+then-from-slot w ↦
          slot_refused of _ _ _ (c.if-s-from.false ∙ c.from.ensures) w.if-h-active.false w.if-h-passive.false
          (omega (arith, w.from-else-h-passive.ensures))
    ]

pub returns-then-n-eq0 : goal.returns-then-n-eq0
returns-then-n-eq0 c =
    λ v of. pair_refused of _ _ _ (c.if-s-from.false ∙ c.from.ensures) c.if-h-active.false c.if-h-passive.false
    (omega (arith, c.from-else-h-passive.ensures)) c.requires.0 c.if-n-eq0.true
