use mathlib.Core.Path.{sym, ◌∙◌}
use Rattle.load_rings.proofs.Found.{one_ringless, ring_by_walks, ring_by_links, ring_by_answers}
use Rattle.load_rings.proofs.ring_found.Goals as goal

pub returns-then-h-eq1 : goal.returns-then-h-eq1
returns-then-h-eq1 c = λ pl told. one_ringless c.requires told c.if-h-eq1.true

pub returns-then-walks_ring : goal.returns-then-walks_ring
returns-then-walks_ring c = λ pl told. ring_by_walks pl (sym c.if-walks_ring.true ∙ c.walks_ring.ensures pl _ told)

pub returns-then-links_ring : goal.returns-then-links_ring
returns-then-links_ring c = λ pl told. ring_by_answers pl (sym c.if-walks_ring.false
    ∙ c.walks_ring.ensures pl _ told) (c.answers_ring.ensures pl _ told)

pub returns : goal.returns
returns c = λ pl told.
    ring_by_links pl (sym c.if-walks_ring.false ∙ c.walks_ring.ensures pl _ told)
    (c.links_ring.ensures pl _ told c.if-links_ring.false)
