use Rattle.phase_pick.proofs.Loops.{from_four, from_five, from_six}
use Rattle.phase_pick.proofs.router.Goals as goal

pub up-requires : goal.up-requires
up-requires c =
    let p = c.requires in (
      p.0,
      p.1,
      from_four p.0 p.1 p.2 c.sides.ensures,
    )

pub down-requires : goal.down-requires
down-requires c =
    let p = c.requires in (
      p.0,
      p.1,
      from_five p.0 p.1 p.2 c.sides.ensures c.up.ensures,
    )

pub returns : goal.returns
returns c =
    let p = c.requires in from_six p.0 p.1 c.sides.ensures c.up.ensures c.down.ensures
