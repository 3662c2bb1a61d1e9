use Rattle.phase_pick.proofs.Tables.{entry_is, range_of}
use Rattle.phase_execute.proofs.Tables.{slots_are}
use Rattle.phase_execute.proofs.Units.{steps_torn}
use Rattle.phase_pick.proofs.Tables.{is_router}
use Rattle.phase_execute.proofs.Needs.{side_asks, side_is, entry_asks, entry_inside, settles_freed}
use Rattle.phase_execute.proofs.heads.tear_down.Goals as goal

pub side_of-o-requires : goal.side_of-o-requires
side_of-o-requires c = let p = c.requires in side_asks p.0 p.1 p.2 p.5

pub entry_row-near-requires : goal.entry_row-near-requires
entry_row-near-requires c =
    let p = c.requires in entry_asks p.0 p.1 p.2 p.5 c.side_of-o.ensures
    c.from.ensures

pub bounds-s-near : goal.bounds-s-near
bounds-s-near c =
    let p = c.requires in entry_inside p.0 p.1 p.2 p.5
    c.side_of-o.ensures c.entry_row-near.ensures c.from.ensures

pub settle-requires : goal.settle-requires
settle-requires c =
    let p = c.requires in settles_freed p.0 p.1 p.2 p.5
    c.side_of-o.ensures p.4 c.entry_row-near.ensures c.from.ensures

pub returns : goal.returns
returns c =
    let p = c.requires in steps_torn p.0.wired
    (range_of p.0) _ _ (is_router p.0 p.1, p.2) _ p.4 (side_is p.0 p.1 p.2 p.5
    c.side_of-o.ensures) (entry_is _ _ _ _ _ _ c.entry_row-near.ensures) c.from.ensures (slots_are _ _ _) p.3
    c.settle.ensures
