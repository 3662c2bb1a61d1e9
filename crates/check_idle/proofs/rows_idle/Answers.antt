use mathlib.Core.Path.{refl}
use Rattle.std.proofs.Common.{rules}
use Rattle.basis.specs.Ranges.{holds_all}
use Rattle.check_idle.proofs.rows_idle.Goals as goal

pub returns : goal.returns
returns c = holds_all refl _ _ c.all.ensures.runs (λ x b q h. search rules)
