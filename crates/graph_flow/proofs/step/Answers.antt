use mathlib.Core.Path.{sym, ◌∙◌}
use Rattle.graph_flow.proofs.Laws.{stepped_none, stepped_some}
use Rattle.graph_flow.proofs.step.Goals as goal

pub returns-then-has : goal.returns-then-has
returns-then-has c =
    stepped_some _ _ _ _ _ c.pass-new.ensures c.without.ensures c.either.ensures
