use native.Mathlib.Omega.{arith}
use Rattle.graph_ring.proofs.Going.{taken_high, going_next, going_more, going_done}
use Rattle.graph_ring.proofs.words.sweep_down.Goals as goal

pub lone-now-requires : goal.lone-now-requires
lone-now-requires c =
    let pre = c.requires in
    let inv = c.loop-x.invariant in
    let node = c.in-Some.ensures.steps in
    let last = pre.2 _ (going_next _ _ inv (taken_high node.0 inv.small node.1 node.3)) in
    (omega (arith, last, pre.1), node.2)

pub loop-x-preserved : goal.loop-x-preserved
loop-x-preserved c =
    let inv = c.loop-x.invariant in
    let node = c.in-Some.ensures.steps in
    going_more _ _ inv (taken_high node.0 inv.small node.1 node.3) c.lone-now.ensures

pub returns : goal.returns
returns c = going_done _ _ _ _ _ c.in-None.ensures.steps.0 c.loop-x.invariant
