use Rattle.bytes_rows.proofs.Joining.{popped}
use Rattle.bytes_rows.proofs.pop.Goals as goal

pub returns : goal.returns
returns c =
    popped _ _ _ _ _ c.from-last.ensures
    c.close_up.ensures c.clear_place.ensures
