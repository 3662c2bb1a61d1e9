use native.Mathlib.Omega.{arith}
use Rattle.load_arrivals.proofs.Meeting.{blank, rows}
use Rattle.load_arrivals.proofs.tracks.tracks.Goals as goal

pub tracks_in-requires : goal.tracks_in-requires
tracks_in-requires c =
    let pre = c.requires in
    let l = rows 17 pre.3 in
    (pre.0, pre.1, pre.2, omega (arith, l, pre.0.0), blank 17 pre.3)

pub returns : goal.returns
returns c = c.tracks_in.ensures
