-- Demand 3, proved: for every byte string that Load accepts, every buffer in which Start is accepted, and every list
-- of calls. No axiom, no hypothesis more.
use Rattle.load.specs.Rules.{accepted_obeys}
use Rattle.theory.proofs.Tracked.{ruled}
use Rattle.claims.specs.Demand3.{Demand3}
use Rattle.claims.proofs.Exact.{accepted_wired, accepted_range}
use Rattle.claims.proofs.Bridge.{bridge}

pub demand3 : Demand3
demand3 = bridge (λ p h e. ruled (accepted_wired p h e) (accepted_range p h e) (accepted_obeys p h e).ringless)
