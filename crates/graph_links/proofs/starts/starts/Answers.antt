use mathlib.Core.Path.{◌∙◌}
use Rattle.graph_links.specs.Starts.{starts_of}
use Rattle.basis.specs.Fold.{up_none, up_done}
use Rattle.graph_links.proofs.Laws.{starts_more}
use native.Mathlib.Omega.{arith}
use Rattle.graph_links.proofs.starts.starts.Goals as goal

pub loop-a-init : goal.loop-a-init
loop-a-init c = (omega arith, c.requires.1 ∙ up_none _ _)

pub loop-a-preserved : goal.loop-a-preserved
loop-a-preserved c = (
  omega arith,
  starts_more _ _ _ c.loop-a.invariant.1
      c.home-x.ensures c.either.ensures,
)

pub returns : goal.returns
unfolding starts_of
returns c = up_done _ _ c.loop-a.invariant.1 (omega arith)
