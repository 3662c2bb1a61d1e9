use Rattle.check_places.proofs.Exits.{frees_none, frees_some}
use Rattle.check_places.proofs.frees.Goals as goal

pub returns-then-hub-eq0 : goal.returns-then-hub-eq0
returns-then-hub-eq0 c = frees_none _ _ c.if-hub-eq0.true

pub returns : goal.returns
returns c = frees_some _ _ c.if-hub-eq0.false
