use mathlib.Core.Path.{refl}
use Rattle.std.proofs.Common.{rules}
use Rattle.basis.specs.Ranges.{tests_all}
use Rattle.load_arrivals.proofs.served.plains.Goals as goal

pub returns : goal.returns
returns c = tests_all refl _ _ c.all.ensures.runs (λ x b q h. search rules)
