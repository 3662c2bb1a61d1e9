use Rattle.basis.specs.Fold.{up_to, fill}
use Rattle.graph_next.specs.Words.{link_of}
use Rattle.graph_next.proofs.Onward.{somes_of}
use mathlib.Core.Path.{◌≡◌}
use mathlib.Core.List.{◌++◌}
use lib.ListN.{replicate, drop}
use Rattle.graph_next.proofs.links.Given as goal

abbrev pub invariant-loop-k : goal.invariant-loop-k
invariant-loop-k l =
    (l.onward-items ++ drop l.n l.fn.to ≡ up_to (fill (link_of l.l l.joints)) l.k (replicate 64 0)) ×
    (l.s ≡ somes_of (link_of l.l l.joints) l.k)
