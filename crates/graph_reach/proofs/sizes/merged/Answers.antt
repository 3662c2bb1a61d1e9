use Rattle.graph_reach.proofs.Sized.{size_put}
use Rattle.graph_reach.specs.Sizes.{merged_of}
use Rattle.basis.specs.Fold.{up_none, up_fill, up_done}
use native.Mathlib.Omega.{arith}
use Rattle.graph_reach.proofs.sizes.merged.Goals as goal

pub loop-p-init : goal.loop-p-init
loop-p-init c = up_none _ _

pub loop-p-preserved : goal.loop-p-preserved
loop-p-preserved c = up_fill _ _ _ c.loop-p.invariant (size_put _ _ c.far_by-far.ensures c.size_of.ensures)

pub returns : goal.returns
unfolding merged_of
returns c = up_done _ _ c.loop-p.invariant (omega arith)
