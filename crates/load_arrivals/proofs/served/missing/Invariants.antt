use Rattle.load_arrivals.specs.Pairs.{Lacking}
use Rattle.load_arrivals.proofs.served.missing.Given as goal

abbrev pub invariant-loop-r : goal.invariant-loop-r
invariant-loop-r l = Lacking l.arrive l.a l.r l.s
