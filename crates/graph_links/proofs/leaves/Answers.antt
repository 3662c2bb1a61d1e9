use native.Mathlib.Omega.{arith}
use Rattle.basis.specs.Fold.{up_none, up_done}
use Rattle.graph_links.proofs.Members.{leaves_more}
use Rattle.graph_links.specs.Cells.{leaves_of}
use mathlib.Core.Path.{◌∙◌}
use Rattle.graph_links.proofs.leaves.Goals as goal

pub loop-x-init : goal.loop-x-init
loop-x-init c = (omega arith, c.requires.1 ∙ up_none _ _)

pub loop-x-preserved : goal.loop-x-preserved
loop-x-preserved c = (
  omega arith,
  leaves_more _ _ _ _ c.loop-x.invariant.1
      c.leave.ensures c.leave-in-loop-x.ensures c.leave-in-loop-x-2.ensures
      c.leave-in-loop-x-3.ensures,
)

pub returns : goal.returns
unfolding leaves_of
returns c = up_done _ _ c.loop-x.invariant.1 (omega arith)
