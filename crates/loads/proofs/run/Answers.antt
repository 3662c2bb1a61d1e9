use native.Mathlib.Omega.{arith}
use native.Mathlib.Nat.{mul-le-mul}
use Rattle.load.specs.Lent.{lent}
use Rattle.loads.proofs.run.Goals as goal

pub overflow_mul-h : goal.overflow_mul-h
overflow_mul-h g c =
    let e = c.load.ensures in
    let t = lent _ _ _ _ _ e.0 c.in-Ok.is e.1 e.2 e.3 e.4 in
    omega (arith, mul-le-mul t.range.actives.1 t.range.passives.1)
