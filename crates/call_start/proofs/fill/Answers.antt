use native.Mathlib.Omega.{arith}
use Rattle.call_start.proofs.Fills.{filled_part}
use Rattle.call_start.proofs.fill.Goals as goal

pub returns : goal.returns
returns c = filled_part _ _ _ _ (omega arith) c.requires _ (c.fill.ensures.after (λ y e. e))
