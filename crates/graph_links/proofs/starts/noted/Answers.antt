use mathlib.Core.Path.{sym, ◌∙◌}
use borrow.Author.Tests.{eq-eqb, ne_eqb}
use Rattle.graph_links.proofs.starts.noted.Goals as goal

pub returns-then-wide-eq0 : goal.returns-then-wide-eq0
unfolding Rattle.graph_links.specs.Starts.note_of
returns-then-wide-eq0 g c = rw (eq-eqb _ 0 (sym c.wide.ensures.0 ∙ c.if-wide-eq0.true))

pub returns : goal.returns
unfolding Rattle.graph_links.specs.Starts.note_of
returns g c = rw (ne_eqb _ 0 (λ e. c.if-wide-eq0.false (c.wide.ensures.0 ∙ e))) c.with.ensures
