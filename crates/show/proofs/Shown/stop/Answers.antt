use Rattle.plan_walks.specs.Inside.{on_of_walk}
use native.Mathlib.Omega.{arith}
use Rattle.show.proofs.Shown.stop.Goals as goal

pub side_out-requires : goal.side_out-requires
side_out-requires g c =
    let l = (on_of_walk _ _ _ _ _ _ c.requires.1 c.stands-s.ensures c.in-On.is).1 in
    (omega arith, omega arith)
