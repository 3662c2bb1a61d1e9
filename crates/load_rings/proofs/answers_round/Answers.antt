use Rattle.load_rings.proofs.Found.{answers_ring}
use Rattle.load_rings.proofs.answers_round.Goals as goal

pub returns : goal.returns
returns c = λ pl arrive told.
    answers_ring c.requires.0 told c.answers.ensures
    c.below.ensures
    c.leaves.ensures c.cross_cells.ensures c.has_ring.ensures
