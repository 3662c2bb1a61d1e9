use Prim.Native.Nat.{◌/◌}
use lib.ListN.{get_or, drop}
use mathlib.Core.Path.{◌≡◌}
use mathlib.Core.List.{◌++◌}
use Rattle.basis.specs.Fold.{up_to, fill}
use Rattle.sets.specs.Sets.{both}
use Rattle.load_arrivals.specs.Pairs.{length_of}
use Rattle.load_lengths.proofs.lengths_of.Given as goal

abbrev pub invariant-loop-a : goal.invariant-loop-a
invariant-loop-a l =
    l.row-items ++ drop l.h.actives l.fn.t
    ≡ up_to (fill (λ i. length_of l.z (get_or l.homes i 0 / 4) (get_or l.served i 0)
    (both (get_or l.arrive (get_or l.homes i 0 / 4) 0) l.far) l.h.actives)) l.a l.fn.t
