use mathlib.Core.Path.{sym, ◌∙◌}
use mathlib.Core.Bool.{false≢true}
use Rattle.check_idle.proofs.Stretch.{quiet_of}
use Rattle.check_idle.proofs.quiet.Goals.{then-zeros, else-zeros}
use Rattle.check_idle.proofs.quiet.Goals as goal

pub returns-then-interfaces_idle : goal.returns-then-interfaces_idle
returns-then-interfaces_idle c = λ e. elim c.if-zeros.branch [
  | then-zeros w ↦ quiet_of _ _ (sym c.zeros.ensures ∙ w.if-zeros.true)
      (w.interfaces_idle.ensures (sym w.value-is ∙ c.if-interfaces_idle.true)) (c.routers_idle.ensures e)
  | else-zeros w ↦ absurd (false≢true (sym w.if-zeros.false ∙ sym w.value-is ∙ c.if-interfaces_idle.true))
]
