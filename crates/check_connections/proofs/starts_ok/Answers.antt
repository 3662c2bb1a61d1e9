use native.Mathlib.Omega.{arith}
use Rattle.check_connections.proofs.Starting.{starting_none, starting_slot, starting_claims, starting_more}
use Rattle.check_connections.proofs.Starting.{starting_fail, starting_done}
use Rattle.check_connections.proofs.Exits.{course_turn}
use Rattle.check_connections.proofs.starts_ok.Goals as goal

pub loop-start-init : goal.loop-start-init
loop-start-init c =
    rw (c.into_iter-start-iterator.ensures.into_iter_gives, c.of-start-items.ensures)
    (starting_none _ _ _ _ _ c.requires.3 (omega arith) c.requires.4)

pub tie_ok-requires : goal.tie_ok-requires
tie_ok-requires c =
    let next = c.in-Some.ensures.steps in
    let s = starting_slot _ _ _ _ _ c.requires.3 c.loop-start.invariant next.0 next.1 next.2 in
    let t = next.2 in (
      course_turn _ _ t c.requires.0,
      omega arith,
      c.requires.2,
      starting_claims _ _ _ _ _ c.requires.3 c.loop-start.invariant next.0 next.1 next.2,
    )

pub returns-then-not-tie_ok : goal.returns-then-not-tie_ok
returns-then-not-tie_ok c =
    let next = c.in-Some.ensures.steps in
    starting_fail _ _ _ _ _ c.requires.3 c.loop-start.invariant next.0 next.1 next.2
    c.tie_ok.ensures (c.if-not-tie_ok.true)

pub loop-start-preserved : goal.loop-start-preserved
loop-start-preserved c =
    let next = c.in-Some.ensures.steps in
    starting_more _ _ _ _ _ c.requires.3 c.loop-start.invariant next.0 next.1 next.2
    c.tie_ok.ensures (c.if-not-tie_ok.false) next.3

pub returns : goal.returns
returns c = starting_done _ _ _ _ _ c.requires.3 c.loop-start.invariant c.in-None.ensures.steps.0
