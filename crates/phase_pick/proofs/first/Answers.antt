use native.Mathlib.Omega.{arith}
use Rattle.phase_pick.proofs.Tables.{range_of}
use Rattle.phase_pick.proofs.Choosing.{first_found, first_none, sends_by}
use Rattle.phase_pick.proofs.Asked.{sends_asks}
use Rattle.phase_pick.proofs.first.Goals as goal

pub overflow_add-of : goal.overflow_add-of
overflow_add-of c =
    let p = c.requires in let q = (sends_asks p.0 p.3 c.loop-k-test.true).2 in omega arith

pub ready-requires : goal.ready-requires
ready-requires c =
    let p = c.requires in let q = sends_asks p.0 p.3 c.loop-k-test.true in (
      p.0,
      q.0,
      q.1,
      sends_by p.0.wired (range_of p.0) p.3 _ c.loop-k-test.true,
      p.3.units _ c.loop-k-test.true,
      p.4,
    )

pub returns-then-ready : goal.returns-then-ready
returns-then-ready c =
    let p = c.requires in first_found p.0.wired (range_of p.0) _ _ _ _ _
    p.3 c.loop-k.invariant.0 c.loop-k-test.true
    c.loop-k.invariant.1 c.ready.ensures c.if-ready.true

pub returns : goal.returns
returns c =
    let p = c.requires in first_none p.0.wired (range_of p.0) _ _ _ _ p.3
    c.loop-k.invariant.1 (omega arith)
