use lib.ListN.{get_or}
use Rattle.graph_links.proofs.Laws.{alone_whole, alone_is}
use Rattle.graph_links.proofs.starts.met.Goals as goal

pub spread-requires : goal.spread-requires
spread-requires c = (
  c.requires.0,
  (alone_whole c.args.n c.home-x.result
      (get_or c.args.served.now c.args.a 0)
      c.requires.2 c.single.ensures).0,
  (alone_whole c.args.n c.home-x.result
      (get_or c.args.served.now c.args.a 0)
      c.requires.2 c.single.ensures).1,
)

pub returns : goal.returns
returns c = rw (← alone_is _ _ _ c.requires.2
    c.home-x.ensures) c.spread.ensures
