use native.Mathlib.Omega.{arith}
use Rattle.check_places.proofs.SideIn.{home_few, side_in_is}
use Rattle.check_places.proofs.came_in.Goals as goal

pub side_in-requires : goal.side_in-requires
side_in-requires c =
    let p = c.requires in
    let f = c.from-2.ensures in (
      home_few c.args.tables.now.homes c.from-from.ensures
          c.from.ensures p.3,
      omega arith,
      p.4,
    )

pub returns-clause-side : goal.returns-clause-side
returns-clause-side c h outs inner routes lengths asked =
    side_in_is c.args.x asked
    c.requires.4 c.from-from.ensures
    c.from.ensures c.from-2.ensures c.side_in.ensures.side
