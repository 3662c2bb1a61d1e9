use Rattle.check_last_senders.proofs.Ranks.{side_rank_lem}
use Rattle.check_last_senders.proofs.unfit.Goals as goal

pub returns : goal.returns
returns c = side_rank_lem _ _ c.least.ensures c.over.ensures
    c.over-2.ensures c.join.ensures
