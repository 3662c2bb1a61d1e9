use mathlib.Core.Path.{ap}
use Rattle.std.specs.Prelude.{Option}
use Rattle.std.specs.Option.{unwrap_or}
use Rattle.next_queue.specs.Next.{no_queue}
use Prim.Native.Nat.{ℕ, ◌+◌}
use native.Mathlib.Omega.{arith}
use Rattle.check_wires.proofs.UnitQueue.{of_interface, of_other, by_side, by_none}
use Rattle.check_wires.proofs.at_unit.Goals as goal

pub returns-then-m-d-clause-queue : goal.returns-then-m-d-clause-queue
returns-then-m-d-clause-queue c outs inner routes lengths asked =
    of_interface _ routes _ _ c.requires.1 c.args.x _ c.if-m-d.true

pub returns-then-m-d-ne4-clause-queue : goal.returns-then-m-d-ne4-clause-queue
returns-then-m-d-ne4-clause-queue c outs inner routes lengths asked =
    of_other _ routes _ _ c.requires.1 c.args.x _ c.if-m-d.false c.if-m-d-ne4.true

pub returns-clause-queue : goal.returns-clause-queue
returns-clause-queue c outs inner routes lengths asked =
    by_side _ routes _ _ c.requires.1 c.args.x (c.in_ok-i.ensures.side _ _ _ routes _ asked) c.in_ok-i.ensures.below
    (ap (λ (b : ℕ). b + 4 + c.in_ok-i.i) c.base_of.ensures.0)

pub returns-in_err-i-clause-queue : goal.returns-in_err-i-clause-queue
returns-in_err-i-clause-queue c outs inner routes lengths asked =
    by_none _ routes _ _ c.requires.1 c.args.x (c.in_err-i.ensures.side _ _ _ routes _ asked) (omega arith)
    (ap (λ (o : Option ℕ). unwrap_or o no_queue) c.from_residual.ensures)
