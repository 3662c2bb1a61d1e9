use Rattle.std.proofs.Common.{arith, ◌≡◌, take, get_or}
use Rattle.std.proofs.lemmas.Grind.{common_steps}
use Rattle.load_arrivals.proofs.Sifting.{lacking_none, lacking_more, lacking_done}
use Rattle.load_arrivals.proofs.served.missing.Goals as goal

pub loop-r-init : goal.loop-r-init
loop-r-init c = lacking_none _ _

pub loop-r-preserved : goal.loop-r-preserved
loop-r-preserved c =
    let same : get_or (take c.args.routers c.args.arrive.now) c.loop-r.r 0 ≡ get_or c.args.arrive.now c.loop-r.r 0 =
    grind (arith, common_steps) in
    lacking_more _ _ _ (grind (arith, common_steps)) c.loop-r.invariant (rw same at c.has.ensures) c.lack-s.ensures

pub returns : goal.returns
returns c = lacking_done _ _ (grind (arith, common_steps)) c.loop-r.invariant
