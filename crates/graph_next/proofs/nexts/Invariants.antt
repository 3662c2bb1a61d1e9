use Rattle.basis.specs.Fold.{up_to, fill}
use Rattle.graph_next.specs.Words.{next_of}
use Rattle.graph_next.proofs.Onward.{somes_of}
use mathlib.Core.Path.{◌≡◌}
use mathlib.Core.List.{◌++◌}
use lib.ListN.{replicate, drop}
use Rattle.graph_next.proofs.nexts.Given as goal

abbrev pub invariant-loop-x : goal.invariant-loop-x
invariant-loop-x l =
    (l.onward-items ++ drop l.n l.fn.to ≡ up_to (fill (next_of l.by l.joints l.t)) l.x (replicate 16 0)) ×
    (l.s ≡ somes_of (next_of l.by l.joints l.t) l.x)
