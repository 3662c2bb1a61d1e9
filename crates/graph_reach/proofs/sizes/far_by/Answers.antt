use Rattle.graph_reach.proofs.Sized.{far_put}
use Rattle.graph_reach.proofs.sizes.far_by.Goals as goal

pub returns : goal.returns
returns c = far_put _ _ _ _ _ c.through.ensures c.through-2.ensures
    c.through-3.ensures c.through-4.ensures
