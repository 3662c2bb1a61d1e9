use mathlib.Core.Path.{sym, ◌∙◌}
use borrow.Author.Tests.{eqb-true}
use Rattle.check_idle.proofs.Stretch.{row_idle, by_words}
use native.Mathlib.Omega.{arith}
use Rattle.check_idle.proofs.idle.Goals as goal

pub returns-then-word-from : goal.returns-then-word-from
returns-then-word-from c = λ e. row_idle _ _ _ (omega arith) (sym c.word.ensures ∙ c.if-word-from.true ∙ c.from.ensures)
    (by_words c.word-then-word-from.ensures c.word-then-word-from-2.ensures c.word-then-word-from-3.ensures
    c.word-then-word-from-4.ensures (eqb-true _ _ e))
