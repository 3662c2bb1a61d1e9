use native.Mathlib.Omega.{arith}
use Rattle.check_connections.proofs.Leaf.{slot_found}
use Rattle.check_connections.proofs.slot_at.Goals as goal

pub returns : goal.returns
returns c = slot_found _ _ _ (omega arith) c.from.ensures c.slot_after-after.ensures
