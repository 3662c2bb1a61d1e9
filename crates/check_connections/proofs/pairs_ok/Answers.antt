use mathlib.Core.Path.{refl}
use native.Mathlib.Omega.{arith}
use Rattle.check_connections.proofs.Exits.{pairing_none, pairing_more, pairing_fail, pairing_done, four_at_lem}
use Rattle.check_connections.proofs.pairs_ok.Goals as goal

pub loop-n-init : goal.loop-n-init
unfolding Rattle.check_connections.specs.Claims.none_claimed
loop-n-init c = (omega arith, pairing_none _ _ refl)

pub pair_ok-requires : goal.pair_ok-requires
pair_ok-requires c =
    let p = c.requires in (
      p.0,
      omega arith,
      four_at_lem c.args.h _ _ _ c.four-word.ensures p.1,
      c.loop-n.invariant.1.claims,
    )

pub returns-then-not-pair_ok : goal.returns-then-not-pair_ok
returns-then-not-pair_ok c =
    pairing_fail _ _ _ _ _ c.loop-n-test.true c.pair_ok.ensures
    (c.if-not-pair_ok.true)

pub loop-n-preserved : goal.loop-n-preserved
loop-n-preserved c =
    let inv = c.loop-n.invariant in
    (omega arith, pairing_more _ _ _ inv.1 c.pair_ok.ensures (c.if-not-pair_ok.false))

pub returns : goal.returns
returns c = pairing_done _ _ _ _ _ c.loop-n.invariant.1 (omega arith)
