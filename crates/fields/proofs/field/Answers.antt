use mathlib.Core.Path.{refl}
use native.Mathlib.Omega.{arith}
use lib.Pow.{pow_pos}
use Rattle.fields.proofs.Laws.{held_by_one, power_is, parts_are, parts_fit}
use Rattle.fields.proofs.field.Goals as goal

pub nonzero_rem-result : goal.nonzero_rem-result
nonzero_rem-result c = rw (power_is c.args.w (omega arith)) (pow_pos c.args.w)

pub returns-then-end-le-BYTE : goal.returns-then-end-le-BYTE
returns-then-end-le-BYTE c =
    let a = c.args in
    rw (power_is a.w (omega arith)) (held_by_one a.s.now a.p a.w (omega arith))

pub nonzero_rem-first : goal.nonzero_rem-first
nonzero_rem-first c = rw (power_is c.args.w (omega arith)) (pow_pos c.args.w)

pub overflow_add-result : goal.overflow_add-result
overflow_add-result c =
    let a = c.args in
    rw (power_is a.w (omega arith))
    (record { fits = parts_fit _ _ _ _ (omega arith) (c.shared_slice_known-3-1.given _).fits (omega arith) })

pub returns : goal.returns
returns c =
    let a = c.args in
    rw (power_is a.w (omega arith))
    (parts_are a.s.now a.p a.w _ refl (omega arith) (omega arith) (c.shared_slice_known-3-1.given _).fits)
