use Rattle.load_arrivals.proofs.Steps.{all_serve}
use Rattle.load_arrivals.proofs.served.serves.Goals as goal

pub returns-then-less-eq0 : goal.returns-then-less-eq0
returns-then-less-eq0 c = all_serve _ _ _ _ _ _ c.requires.0.0.1 c.below.ensures c.less.ensures c.if-less-eq0.true
    c.at_homes.ensures
