use Rattle.plan.proofs.Fill.{fill_is}
use Rattle.plan.proofs.counts.fill_ok.Goals as goal

pub returns : goal.returns
returns c =
    let p = c.requires in
    rw (c.both.ensures, c.from.ensures, c.below.ensures) (fill_is c.args.plan.now c.args.from p.0 p.2 p.3)
