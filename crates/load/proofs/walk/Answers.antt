use native.Mathlib.Omega.{arith}
use Rattle.load.proofs.Right.{lent_right}
use Rattle.load.proofs.Exits.{walk_refused, walk_no_active, walk_no_passive, walk_of_pair}
use Rattle.load.proofs.walk.Goals as goal

pub returns-in_default : goal.returns-in_default
returns-in_default c = walk_refused _ _ _ c.fill-l.ensures.answer c.in_default.is

pub returns-then-h-active : goal.returns-then-h-active
returns-then-h-active c = walk_no_active _ _ _ c.fill-l.ensures.answer
    c.in-Ok.is c.if-h-active.true

pub returns-then-h-passive : goal.returns-then-h-passive
returns-then-h-passive c = walk_no_passive _ _ _ c.fill-l.ensures.answer
    c.in-Ok.is c.if-h-active.false c.if-h-passive.true

pub pair_walk-requires : goal.pair_walk-requires
pair_walk-requires c =
    let t = (lent_right c.fill-l.ensures c.in-Ok.is) in
    let a = t.range.actives.1 in
    let p = t.range.passives.1 in
    let la = c.if-h-active.false in
    let lp = c.if-h-passive.false in
    (omega arith, omega arith)

pub returns : goal.returns
returns c =
    walk_of_pair _ _ _ c.fill-l.ensures.answer
    c.in-Ok.is (lent_right c.fill-l.ensures
    c.in-Ok.is) c.if-h-active.false
    c.if-h-passive.false c.pair_walk.ensures
