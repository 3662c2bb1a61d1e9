use Rattle.load_arrivals.specs.Pairs.{at_home}
use Rattle.load_arrivals.proofs.served.at_home.Goals as goal

pub returns : goal.returns
unfolding at_home
returns c = rw (c.both.ensures, c.far_of.ensures, c.port-x.ensures.0)
