use native.Mathlib.Omega.{arith}
use lib.ListN.{get_or}
use borrow.Author.Tests.{le-leb, lt-leb}
use Rattle.check_state.proofs.header_ok.Goals as goal

pub returns-then-s-from : goal.returns-then-s-from
unfolding Rattle.check_state.specs.Inspect.header_fits
returns-then-s-from c = simp (le-leb (get_or c.args.s.now 0 0) 2 (omega (arith, c.from.ensures, c.if-s-from.true)))

pub returns-else-s-from : goal.returns-else-s-from
unfolding Rattle.check_state.specs.Inspect.header_fits
returns-else-s-from c =
    simp (c.from.ensures, lt-leb (get_or c.args.s.now 0 0) 2 (omega (arith, c.from.ensures, c.if-s-from.false)))
