use Rattle.load_arrivals.proofs.Steps.{home_below, chosen_plain, chosen_sifted}
use native.Mathlib.Omega.{arith}
use Rattle.load_arrivals.proofs.served.serve.Goals as goal

pub returns-then-plain : goal.returns-then-plain
returns-then-plain c = chosen_plain _ _ _ _ _ _ c.at_home-v.ensures c.plain.ensures c.if-plain.true

pub sift-requires : goal.sift-requires
sift-requires c =
    let pre = c.requires in
    let port = c.port-x.ensures in
    let l = port.1 in
    let below = home_below _ _ c.args.h _ pre.3 c.at_home-v.ensures port.0 in
    (omega arith, λ d q. let m = below d q in omega (arith, m, pre.4))

pub returns : goal.returns
returns c = chosen_sifted _ _ _ _ _ _ c.at_home-v.ensures c.port-x.ensures.0 c.missing.ensures c.sift.ensures
