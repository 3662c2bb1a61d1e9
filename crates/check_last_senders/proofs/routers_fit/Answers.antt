use mathlib.Core.Path.{refl}
use Rattle.std.proofs.Common.{rules}
use Rattle.basis.specs.Ranges.{tests_all}
use Rattle.check_last_senders.proofs.routers_fit.Goals as goal

pub returns : goal.returns
unfolding Rattle.check_last_senders.specs.Turns.routers_ranks
returns c = tests_all refl _ _ c.all.ensures.runs (λ x b q h. search rules)
