use mathlib.Core.Path.{◌∙◌}
use native.Mathlib.Nat.{add-zero}
use Rattle.call_start.proofs.Begins.{filled_as}
use Rattle.call_start.proofs.allow.Goals as goal

pub returns : goal.returns
returns c =
    filled_as _ _ (c.allowance_row.ensures ∙ add-zero _)
    c.smaller-v.ensures c.fill.ensures
