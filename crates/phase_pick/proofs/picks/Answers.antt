use native.Mathlib.Omega.{arith}
use Rattle.phase_pick.proofs.Loops.{interfaces_hold, picks_all}
use Rattle.phase_pick.proofs.picks.Goals as goal

pub routers-requires : goal.routers-requires
routers-requires c =
    let p = c.requires in (
      p.0,
      interfaces_hold p.0 (omega arith) p.1 c.interfaces.ensures,
    )

pub returns : goal.returns
returns c =
    let p = c.requires in picks_all p.0 c.interfaces.ensures c.routers.ensures
