use native.Mathlib.Omega.{arith}
use Rattle.check_places.proofs.Exits.{onward_is}
use Rattle.check_places.proofs.onward.Goals as goal

pub returns : goal.returns
returns c = (onward_is _ _ _ _ c.from-side.ensures c.from-v.ensures, omega arith)
