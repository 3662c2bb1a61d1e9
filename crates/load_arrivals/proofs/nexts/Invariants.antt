use mathlib.Core.Path.{◌≡◌}
use mathlib.Core.List.{◌++◌}
use Prim.Native.Nat.{◌*◌}
use lib.ListN.{get_or, replicate, drop}
use Rattle.basis.specs.Fold.{up_to, fill}
use Rattle.load_arrivals.specs.Tables.{next_of}
use Rattle.load_arrivals.proofs.nexts.Given as goal

abbrev pub invariant-loop-k : goal.invariant-loop-k
invariant-loop-k l =
    l.beyond-items ++ drop (4 * l.routers) (replicate 64 16)
    ≡ up_to (fill (λ i. next_of (get_or l.joints i 0))) l.k (replicate 64 16)
