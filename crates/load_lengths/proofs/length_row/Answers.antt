use borrow.Author.Tests.{eq-eqb, ne_eqb}
use lib.ListN.{length}
use mathlib.Core.Path.{sym, ap, ◌∙◌}
use Rattle.load_arrivals.specs.Pairs.{length_of}
use Rattle.load_lengths.proofs.Rows.{row_copied}
use Rattle.load_lengths.proofs.length_row.Goals as goal

pub returns-then-w-v : goal.returns-then-w-v
unfolding length_of
returns-then-w-v c =
    λ z x e. rw (eq-eqb _ _ c.if-w-v.true) (e ∙ row_copied z x (ap length (sym e) ∙ c.told-sizes))

pub returns : goal.returns
unfolding length_of
returns c = λ z x e. rw (ne_eqb _ _ c.if-w-v.false) (c.masked.ensures z x e)
