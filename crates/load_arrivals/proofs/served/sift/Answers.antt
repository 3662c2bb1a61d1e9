use Rattle.load_arrivals.proofs.Sifting.{sifting_none, sifting_there, sifting_more, sifting_end}
use native.Mathlib.Omega.{arith}
use Rattle.load_arrivals.proofs.served.sift.Goals as goal

pub loop-d-init : goal.loop-d-init
loop-d-init c =
    rw (c.into_iter-d-iterator.ensures.into_iter_gives, c.of-d-items.ensures) (sifting_none _ _ _ _ (omega arith))

pub bounds-up-x : goal.bounds-up-x
bounds-up-x c =
    let next = c.in-Some.ensures.steps in
    c.requires.1 _ (sifting_there next.0 next.1 c.loop-d.invariant)

pub loop-d-preserved : goal.loop-d-preserved
loop-d-preserved c =
    let next = c.in-Some.ensures.steps in
    sifting_more next.0 next.1 next.3 c.both.ensures c.kept-w.ensures c.loop-d.invariant

pub returns : goal.returns
returns c = sifting_end c.in-None.ensures.steps.0 c.loop-d.invariant
