use Rattle.graph_links.proofs.Laws.{answering_none, answering_more}
use native.Mathlib.Omega.{arith}
use Rattle.graph_links.proofs.starts.answering.Goals as goal

pub loop-a-init : goal.loop-a-init
loop-a-init c = (omega arith, answering_none _ _ _ _ _ c.requires.2)

pub loop-a-preserved : goal.loop-a-preserved
loop-a-preserved c = (
  omega arith,
  answering_more _ _ _ _ _
      c.requires.0 c.met.ensures
      c.note.ensures c.loop-a.invariant.1,
)
