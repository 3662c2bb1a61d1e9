use Rattle.check_queues.specs.Lines.{cap_in}
use Rattle.basis.specs.Fold.{up_to, fill}
use lib.ListN.{replicate}
use mathlib.Core.Path.{◌≡◌}
use Rattle.check_queues.proofs.router_caps.Given as goal

abbrev pub invariant-loop-k : goal.invariant-loop-k
invariant-loop-k l = l.cap-items ≡ up_to (fill (cap_in l.h)) l.k l.initial.cap-items
