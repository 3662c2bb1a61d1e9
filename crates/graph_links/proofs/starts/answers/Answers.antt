use Rattle.graph_links.proofs.Laws.{answering_whole}
use Rattle.graph_links.proofs.starts.answers.Goals as goal

pub spread-requires : goal.spread-requires
spread-requires c = (
  c.requires.0,
  (answering_whole _ _ _ _ _ c.answering.ensures c.below.ensures).0,
  (answering_whole _ _ _ _ _ c.answering.ensures c.below.ensures).1,
)
