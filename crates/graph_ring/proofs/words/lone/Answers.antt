use borrow.Author.Tests.{eq-eqb, ne_eqb}
use mathlib.Core.Path.{sym, ◌∙◌}
use Rattle.graph_ring.proofs.words.lone.Goals as goal

pub returns-then-both-eq0 : goal.returns-then-both-eq0
unfolding Rattle.graph_ring.specs.Words.lone_of
returns-then-both-eq0 c =
    rw (eq-eqb _ 0 (sym c.both.ensures ∙ c.if-both-eq0.true)) c.without.ensures

pub returns : goal.returns
unfolding Rattle.graph_ring.specs.Words.lone_of
returns c = rw (ne_eqb _ 0 (λ e. c.if-both-eq0.false (c.both.ensures ∙ e)))
