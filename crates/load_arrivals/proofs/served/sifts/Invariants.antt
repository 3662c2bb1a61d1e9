use mathlib.Core.List.{◌++◌}
use lib.ListN.{replicate, drop}
use Rattle.load_arrivals.specs.Pairs.{Choices}
use Rattle.load_arrivals.proofs.served.sifts.Given as goal

abbrev pub invariant-loop-a : goal.invariant-loop-a
invariant-loop-a l =
    Choices l.homes l.arrive l.h l.all l.up l.a (l.passives-items ++ drop l.h.actives (replicate 16 0))
