use Rattle.graph_reach.specs.Sizes.{far_by, size_of}
use Rattle.basis.specs.Fold.{up_to, fill}
use lib.ListN.{get_or}
use mathlib.Core.Path.{◌≡◌}
use Prim.Native.Nat.{◌+◌}
use Rattle.graph_reach.proofs.sizes.merged.Given as goal

abbrev pub invariant-loop-p : goal.invariant-loop-p
invariant-loop-p l =
    l.size-items ≡ up_to (fill (λ k. size_of (far_by (get_or l.sides (l.column + k) 0) (get_or l.a k 0) (get_or l.b k 0)
    (get_or l.c k 0)
    (get_or l.d k 0)) (get_or l.own k 0))) l.p l.initial.size-items
