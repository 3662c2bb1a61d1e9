use Rattle.sets.specs.Sets.{has}
use Rattle.basis.specs.Choice.{pick}
use Prim.Native.Nat.{◌+◌}
use lib.ListN.{get_or, replicate}
use mathlib.Core.Path.{◌≡◌}
use Rattle.basis.specs.Fold.{up_to, fill}
use Rattle.load_lengths.proofs.masked.Given as goal

abbrev pub invariant-loop-p : goal.invariant-loop-p
invariant-loop-p l =
    l.size-items
    ≡ up_to (fill (λ i. pick (has l.w (l.column + i)) (get_or l.sizes i 0) 0)) l.p (replicate 16 0)
