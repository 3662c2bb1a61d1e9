use Rattle.graph_met.proofs.Trailing.{leading_word, leading_more, leading_end, single_fits}
use native.Mathlib.Omega.{arith}
use Rattle.graph_met.proofs.lead.Goals as goal

pub bounds-up-n : goal.bounds-up-n
bounds-up-n c =
    let next = c.in-Some.ensures.steps in
    let w = leading_word next.0 next.1 c.loop-d.invariant in
    let a = c.requires.4 _ w.0 in
    let e = c.loop-d.invariant.long in
    omega (arith, a.0, e)

pub overflow_add-up : goal.overflow_add-up
overflow_add-up c =
    let next = c.in-Some.ensures.steps in
    let w = leading_word next.0 next.1 c.loop-d.invariant in
    let a = c.requires.4 _ w.0 in
    let b = single_fits _ c.single-own.ensures (omega arith) in
    record { fits = omega (arith, a.1, w.1, b) }

pub overflow_add-up-in-loop-d : goal.overflow_add-up-in-loop-d
overflow_add-up-in-loop-d c =
    let next = c.in-Some.ensures.steps in
    let w = leading_word next.0 next.1 c.loop-d.invariant in
    let a = c.requires.4 _ w.0 in
    let b = single_fits _ c.single-own.ensures (omega arith) in
    record { fits = omega (arith, a.1, w.1, b) }

pub loop-d-preserved : goal.loop-d-preserved
loop-d-preserved c =
    let next = c.in-Some.ensures.steps in
    leading_more (omega arith) next.0 next.1 next.2 next.3 (omega (arith, c.single-own.ensures)) c.loop-d.invariant

pub returns : goal.returns
returns c = leading_end c.in-None.ensures.steps.0 c.loop-d.invariant
