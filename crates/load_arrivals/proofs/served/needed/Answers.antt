use Rattle.load_arrivals.proofs.Steps.{plain_serve}
use Rattle.load_arrivals.proofs.served.needed.Goals as goal

pub at_homes-w-requires : goal.at_homes-w-requires
at_homes-w-requires c = (c.requires.0.0, c.requires.0.1)

pub plains-requires : goal.plains-requires
plains-requires c = c.requires.0.0.1

pub returns-then-plains : goal.returns-then-plains
returns-then-plains c = plain_serve _ _ _ _ _ _ c.requires.0.0.1 c.at_homes-w.ensures c.plains.ensures
    c.if-plains.true

pub sifted-requires : goal.sifted-requires
sifted-requires c = c.requires
