use Rattle.load_arrivals.proofs.Steps.{reached_below}
use lib.ListN.{length}
use mathlib.Core.Path.{ap, ◌∙◌}
use Rattle.load_arrivals.proofs.Charts.{nexts_inside, first_idle, firsts_long}
use Rattle.load_lengths.proofs.Sound.{walks_sound}
use Rattle.load_lengths.proofs.walks.Goals as goal

pub reach-all-requires : goal.reach-all-requires
reach-all-requires c =
    let made = c.firsts.ensures in
    let pre = c.requires.0 in (
      pre.0.0,
      pre.0.1,
      rw c.nexts-next.ensures (nexts_inside _ _ pre.0.0),
      rw made (first_idle _ _ _ _ pre.1 pre.2 _),
      ap length made ∙ firsts_long _ _ _,
    )

pub serves-served-requires : goal.serves-served-requires
serves-served-requires c =
    let made = c.firsts.ensures in
    let pre = c.requires.0 in (
      pre,
      reached_below _ _ (rw made (first_idle _ _ _ _ pre.1 pre.2 _)) c.reach-all.ensures.0,
    )

pub lengths_of-requires : goal.lengths_of-requires
lengths_of-requires c =
    let pre = c.requires in (pre.0.0, pre.0.1, pre.2)

pub returns-clause-walks : goal.returns-clause-walks
returns-clause-walks c =
    let pre = c.requires.0 in
    walks_sound _ _ _ _ _ _ _ pre.0.1 pre.0.2
    c.nexts-next.ensures
    c.firsts.ensures
    c.nears.ensures
    c.below.ensures
    c.far_of.ensures
    c.reach-all.ensures.0
    c.reach-all.ensures.1
    c.reach-all.ensures.2
    c.serves-served.ensures c.lengths_of.ensures
