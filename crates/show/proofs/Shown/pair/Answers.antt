use Rattle.load.specs.Lent.{home_small}
use native.Mathlib.Omega.{arith}
use Rattle.show.proofs.Shown.pair.Goals as goal

pub walk-requires : goal.walk-requires
walk-requires g c =
    let plan = c.args.self.now in
    (omega arith, home_small _ _ _ plan.few plan.ports _ (omega arith) c.from-from.ensures)
