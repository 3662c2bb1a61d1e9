use Rattle.check_places.proofs.Exits.{far_is}
use Rattle.check_places.proofs.far_by.Goals as goal

pub returns : goal.returns
returns c =
    far_is _ _ _ _ _ _ c.from-from.ensures c.from-a.ensures c.comes_by.ensures
