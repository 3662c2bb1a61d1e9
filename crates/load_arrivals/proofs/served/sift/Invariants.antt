use Rattle.load_arrivals.proofs.Sifting.{Sifting}
use Rattle.load_arrivals.proofs.served.sift.Given as goal

abbrev pub invariant-loop-d : goal.invariant-loop-d
invariant-loop-d l = Sifting l.up l.x l.v l.missing l.d-iterator.left l.w
