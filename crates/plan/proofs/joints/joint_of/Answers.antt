use native.Mathlib.Omega.{arith}
use Prim.Native.Nat.{◌/◌}
use borrow.Author.Tests.{ne_eqb}
use Rattle.plan.specs.Tables.{joint_of_byte}
use Rattle.plan.proofs.joints.joint_of.Goals as goal

pub returns-in-1 : goal.returns-in-1
unfolding joint_of_byte
returns-in-1 c = rw (c.in-1.is, c.from-number.ensures, c.from.ensures)

pub returns-in-2 : goal.returns-in-2
unfolding joint_of_byte
returns-in-2 c = rw (c.in-2.is, c.from-number.ensures)

pub returns-in-3 : goal.returns-in-3
unfolding joint_of_byte
returns-in-3 c = rw (c.in-3.is, c.from-number.ensures)

pub returns-in_default : goal.returns-in_default
unfolding joint_of_byte
returns-in_default c =
    simp (
      ne_eqb (c.args.v / 64) 1 (λ e. omega arith),
      ne_eqb (c.args.v / 64) 2 (λ e. omega arith),
      ne_eqb (c.args.v / 64) 3 (λ e. omega arith),
    )
