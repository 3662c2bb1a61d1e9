use Prim.Native.Nat.{◌+◌}
use native.Mathlib.Omega.{arith}
use native.Mathlib.Nat.{mul-le-mul_right}
use Rattle.plan.proofs.counts.bit_count.Goals as goal

pub overflow_mul-result-2 : goal.overflow_mul-result-2
overflow_mul-result-2 c = omega (
  arith,
  mul-le-mul_right (c.args.h.actives
      + c.args.h.passives) c.requires.0,
)

pub overflow_mul-result-3 : goal.overflow_mul-result-3
overflow_mul-result-3 c = omega (
  arith,
  mul-le-mul_right (c.args.h.actives
      + c.args.h.passives) c.requires.0,
)

pub overflow_add-result-3 : goal.overflow_add-result-3
overflow_add-result-3 c = omega (
  arith,
  mul-le-mul_right (c.args.h.actives
      + c.args.h.passives) c.requires.0,
)
