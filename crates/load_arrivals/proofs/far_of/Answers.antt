use Rattle.load_arrivals.specs.Tables.{far_of}
use Rattle.load_arrivals.proofs.far_of.Goals as goal

pub returns : goal.returns
unfolding far_of
returns c = rw (c.less.ensures, c.below.ensures, c.below-2.ensures)
