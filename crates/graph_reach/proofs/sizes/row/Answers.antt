use Rattle.graph_reach.specs.Sizes.{row_of}
use Rattle.graph_reach.proofs.sizes.row.Goals as goal

pub returns : goal.returns
unfolding row_of
returns c =
    let c5 = c in
    rw (
      c.merged.ensures,
      c5.beyond-d.ensures.0,
      c5.beyond-c.ensures.0,
      c5.beyond-b.ensures.0,
      c5.beyond-a.ensures.0,
    )
