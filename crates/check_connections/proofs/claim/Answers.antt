use Rattle.check_connections.proofs.Leaf.{claim_lacking, claim_shared, claim_made}
use Rattle.check_connections.proofs.claim.Goals as goal

pub returns-then-from-side : goal.returns-then-from-side
returns-then-from-side c = claim_lacking _ _ _ _ _ _ c.from.ensures c.if-from-side.true

pub returns-then-has : goal.returns-then-has
returns-then-has c =
    claim_shared _ _ _ _ _ _ c.from.ensures c.if-from-side.false
    c.has.ensures c.if-has.true

pub returns : goal.returns
returns c =
    claim_made _ _ _ _ _ _ c.from.ensures c.if-from-side.false
    c.has.ensures c.if-has.false c.with.ensures
