use Rattle.check_last_senders.proofs.Ranks.{sides_first, sides_joined, sides_ranked}
use native.Mathlib.Omega.{arith}
use Rattle.check_last_senders.proofs.sides_unfit.Goals as goal

pub loop-o-init : goal.loop-o-init
loop-o-init c = (omega arith, sides_first _ _ _ _)

pub loop-o-preserved : goal.loop-o-preserved
loop-o-preserved c = (
  omega arith,
  sides_joined _ _ _ _ _ c.loop-o.invariant.1
      c.unfit.ensures c.join-bad.ensures,
)

pub returns : goal.returns
returns c = sides_ranked _ _ _ _ _ _ c.loop-o.invariant.1 (omega arith)
