use Rattle.graph_links.proofs.Laws.{starts_whole}
use Rattle.graph_links.proofs.starts.carried.Goals as goal

pub spread-requires : goal.spread-requires
spread-requires c = (
  c.requires.0,
  (starts_whole _ _ _ c.starts.ensures c.below.ensures).0,
  (starts_whole _ _ _ c.starts.ensures c.below.ensures).1,
)
