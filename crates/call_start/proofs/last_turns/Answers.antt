use mathlib.Core.Path.{◌∙◌}
use native.Mathlib.Nat.{add-zero}
use Rattle.call_start.proofs.Begins.{both_turns}
use Rattle.call_start.proofs.last_turns.Goals as goal

pub returns : goal.returns
returns c =
    both_turns _ _ (c.turn_row.ensures ∙ add-zero _) c.fill.ensures
    c.inner_turns.ensures
