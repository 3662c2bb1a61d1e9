use Rattle.check_last_senders.proofs.Ranks.{router_ranked}
use Rattle.check_last_senders.proofs.router_fits.Goals as goal

pub returns : goal.returns
returns c =
    router_ranked _ _ _ _ c.sides_unfit-sides.ensures
    c.over.ensures c.over-2.ensures c.join-unit.ensures
    c.join.ensures
