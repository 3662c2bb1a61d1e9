use mathlib.Core.Path.{sym, ◌∙◌}
use borrow.Author.Tests.{eq-eqb, ne_eqb}
use Rattle.graph_links.proofs.leaving.Goals as goal

pub returns-then-both-eq0 : goal.returns-then-both-eq0
returns-then-both-eq0 g c = rw (eq-eqb _ 0 (sym c.both.ensures ∙ c.if-both-eq0.true)) c.narrow.ensures

pub returns : goal.returns
returns g c = rw (ne_eqb _ 0 (λ e. c.if-both-eq0.false (c.both.ensures ∙ e))) c.single.ensures
