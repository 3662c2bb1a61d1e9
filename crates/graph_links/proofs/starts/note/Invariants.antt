use lib.ListN.{get_or, set, drop}
use mathlib.Core.List.{◌++◌}
use mathlib.Core.Path.{◌≡◌}
use Rattle.graph_links.specs.Starts.{note_of}
use Rattle.basis.specs.Fold.{up_to}
use Rattle.graph_links.proofs.starts.note.Given as goal

abbrev pub invariant-loop-x : goal.invariant-loop-x
invariant-loop-x l =
    l.set-items ++ drop l.n l.fn.t ≡ up_to (λ y u. set u y (note_of l.a (get_or l.m y 0) (get_or u y 0))) l.x l.fn.t
