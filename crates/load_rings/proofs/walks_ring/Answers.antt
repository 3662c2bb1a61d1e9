use Rattle.load_rings.proofs.Found.{routers_clear, walks_ring}
use Rattle.load_rings.proofs.walks_ring.Goals as goal

pub returns-then-not-routers_ring : goal.returns-then-not-routers_ring
returns-then-not-routers_ring c = λ pl arrive told.
    routers_clear c.requires told c.carried.ensures
    c.routers_ring.ensures (c.if-not-routers_ring.true)

pub returns : goal.returns
returns c = λ pl arrive told.
    walks_ring c.requires told
    c.carried.ensures c.trails_ring.ensures
