use mathlib.Core.Path.{refl}
use Rattle.call_start.proofs.Begins.{routers_as}
use Rattle.call_start.proofs.lay_inner.Goals as goal

pub returns : goal.returns
unfolding Rattle.call_start.specs.Starting.copies
returns g c = routers_as _ g.row.N _ c.requires.2 refl c.inner_credits.ensures c.lay_credits.ensures refl
