use Rattle.load_arrivals.specs.Tables.{first_of}
use Rattle.load_arrivals.proofs.first_of.Goals as goal

pub returns : goal.returns
unfolding first_of
returns c = rw (c.either.ensures, c.both.ensures, c.single.ensures)
