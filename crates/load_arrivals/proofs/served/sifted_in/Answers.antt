use native.Mathlib.Omega.{arith}
use Rattle.load_arrivals.proofs.Steps.{choices_serve}
use Rattle.load_arrivals.proofs.served.sifted_in.Goals as goal

pub tracks_in-requires : goal.tracks_in-requires
tracks_in-requires c =
    let pre = c.requires in (pre.0.0, pre.0.1, pre.0.2, pre.2, pre.3)

pub sifts-requires : goal.sifts-requires
sifts-requires c =
    let pre = c.requires in
    (pre.0.0, pre.0.1, pre.1, omega (arith, pre.2, c.tracks_in.auto.up))

pub shape_of-up : goal.shape_of-up
shape_of-up c = c.tracks_in.auto.up

pub returns : goal.returns
returns c = choices_serve _ _ _ _ _ _ c.tracks_in.ensures c.sifts.ensures
