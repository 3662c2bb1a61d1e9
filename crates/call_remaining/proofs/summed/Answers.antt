use native.Mathlib.Omega.{arith}
use Rattle.call_remaining.proofs.Sums.{apart_none, apart_more}
use Rattle.call_remaining.proofs.summed.Goals as goal

pub loop-k-init : goal.loop-k-init
loop-k-init c = (omega arith, apart_none _ _ _, omega arith)

pub loop-k-preserved : goal.loop-k-preserved
loop-k-preserved c =
    let sum = c.loop-k.invariant in (
      omega arith,
      apart_more _ _ _ _ sum.1 c.from-m.ensures,
      let m = sum.2 in omega arith,
    )
