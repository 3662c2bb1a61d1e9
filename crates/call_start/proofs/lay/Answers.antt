use native.Mathlib.Omega.{arith}
use Rattle.call_start.proofs.Fills.{copied}
use Rattle.call_start.proofs.lay.Goals as goal

pub returns : goal.returns
returns c = copied _ _ _ _ (omega arith) c.requires.0 _ c.requires.1 c.copy_from_slice.ensures.after
