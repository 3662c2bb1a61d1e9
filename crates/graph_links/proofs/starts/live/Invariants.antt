use mathlib.Core.Path.{◌≡◌}
use Rattle.sets.specs.Sets.{either}
use Rattle.graph_links.specs.Starts.{live_of}
use Rattle.basis.specs.Fold.{up_to}
use Rattle.graph_links.proofs.starts.live.Given as goal

abbrev pub invariant-loop-a : goal.invariant-loop-a
invariant-loop-a l = l.all ≡ up_to (λ x s. either s (live_of l.served x)) l.a 0
