use Rattle.graph_ring.proofs.Laws.{judge_none}
use Rattle.graph_ring.proofs.judge.Goals as goal

pub returns-then-left-g-eq0 : goal.returns-then-left-g-eq0
returns-then-left-g-eq0 c = judge_none _ _ _ c.if-left-g-eq0.true

pub returns : goal.returns
unfolding Rattle.graph_ring.specs.Cells.judge_of
returns c = rw (
  c.both.ensures,
  c.either-3.ensures,
  c.either-2.ensures,
  c.either.ensures,
  c.keep-d.ensures,
  c.keep-c.ensures,
  c.keep-b.ensures,
  c.keep-a.ensures,
)
