use Rattle.load_arrivals.specs.Pairs.{at_home}
use Rattle.basis.specs.Fold.{up_to, fill}
use mathlib.Core.List.{◌++◌}
use lib.ListN.{replicate, drop}
use mathlib.Core.Path.{◌≡◌}
use Rattle.load_arrivals.proofs.served.at_homes.Given as goal

abbrev pub invariant-loop-a : goal.invariant-loop-a
invariant-loop-a l =
    l.passives-items ++ drop l.h.actives (replicate 16 0)
    ≡ up_to (fill (at_home l.homes l.arrive l.h)) l.a (replicate 16 0)
