use native.Mathlib.Omega.{arith}
use Rattle.load_arrivals.proofs.Meeting.{tracks_are}
use Rattle.load_arrivals.proofs.Charts.{nexts_inside, first_idle, firsts_long}
use mathlib.Core.Path.{ap, ◌∙◌}
use lib.ListN.{length}
use Rattle.load_arrivals.proofs.tracks.tracks_in.Goals as goal

pub trails-requires : goal.trails-requires
trails-requires c =
    let made = c.firsts.ensures in
    let pre = c.requires in (
      pre.0.0,
      rw c.nexts-next.ensures (nexts_inside _ _ (omega arith)),
      rw made (first_idle _ _ _ _ pre.1 pre.2 _),
      ap length made ∙ firsts_long _ _ _,
      pre.3,
      pre.4,
    )

pub shape_of-up : goal.shape_of-up
shape_of-up c = c.trails.auto.up

pub returns : goal.returns
returns c =
    let trails = c.trails.ensures in
    tracks_are c.args.h _ _ _ c.nexts-next.ensures c.firsts.ensures
    c.below.ensures trails.0 trails.1.1
