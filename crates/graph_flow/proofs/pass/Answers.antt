use mathlib.Core.Path.{◌∙◌}
use native.Mathlib.Omega.{arith}
use Rattle.graph_flow.proofs.Laws.{passed}
use Rattle.graph_flow.proofs.pass.Goals as goal

pub returns : goal.returns
returns c = passed _ _ _ _ c.push-a.ensures
    c.push-b.ensures
    c.push-c.ensures c.push-d.ensures
    c.either.ensures c.either-2.ensures c.either-3.ensures
