use native.Mathlib.Omega.{arith}
use Rattle.check_queues.proofs.Turns.{seen_none, seen_more, seen_fail, seen_done}
use Rattle.check_queues.proofs.places_ok.Goals as goal

pub loop-k-init : goal.loop-k-init
loop-k-init c = (omega arith, seen_none _ _ _ _ _ _)

pub place_ok-requires : goal.place_ok-requires
place_ok-requires c =
    (c.requires.0, c.requires.1, omega arith, omega arith)

pub returns-then-not-place_ok : goal.returns-then-not-place_ok
returns-then-not-place_ok c =
    seen_fail _ _ _ _ _ _ _ _ c.loop-k-test.true c.place_ok.ensures
    (c.if-not-place_ok.true)

pub loop-k-preserved : goal.loop-k-preserved
loop-k-preserved c = (
  omega arith,
  seen_more _ _ _ _ _ _ _ c.loop-k.invariant.1
      c.place_ok.ensures (c.if-not-place_ok.false),
)

pub returns : goal.returns
returns c = seen_done _ _ _ _ _ _ _ c.loop-k.invariant.1 (omega arith)
