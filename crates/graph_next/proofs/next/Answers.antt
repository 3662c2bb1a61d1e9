use Rattle.graph_next.proofs.next.Goals as goal

pub returns : goal.returns
unfolding Rattle.graph_next.specs.Words.next_of Rattle.graph_next.specs.Words.four_of
returns c = rw (
  c.either-3.ensures,
  c.either-2.ensures,
  c.either.ensures,
  c.toward-d.ensures,
  c.toward-c.ensures,
  c.toward-b.ensures,
  c.toward-a.ensures,
)
