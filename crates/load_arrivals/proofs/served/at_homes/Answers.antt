use Rattle.std.proofs.Common.{arith, sym, ◌∙◌, ◌<◌, length, replicate}
use Rattle.std.proofs.lemmas.List.{set-append_left, take-append-drop}
use Rattle.load_arrivals.specs.Pairs.{at_homes}
use Rattle.load_arrivals.proofs.Steps.{in_part, part_end}
use Rattle.basis.specs.Fold.{up_none, up_fill, up_done}
use Rattle.load_arrivals.proofs.served.at_homes.Goals as goal

pub loop-a-init : goal.loop-a-init
loop-a-init c = take-append-drop c.args.h.actives (replicate 16 0) ∙ up_none _ _

pub at_home-requires : goal.at_home-requires
at_home-requires c =
    let pre = c.requires in
    (pre.0, in_part c.args.h.actives 16 0 pre.0.1 c.loop-a-test.true, pre.1)

pub loop-a-preserved : goal.loop-a-preserved
loop-a-preserved c =
    let at = c.loop-a in
    let here : at.a < length at.passives-items = omega (arith, at.auto.passives-items) in
    sym (set-append_left at.passives-items _ at.a _ here) ∙ up_fill _ _ _ at.invariant c.at_home.ensures

pub returns : goal.returns
unfolding at_homes
returns c =
    up_done _ _ c.loop-a.invariant
    (part_end c.args.h.actives 16 0 c.requires.0.1 c.loop-a-test.false c.loop-a.auto.a-end)
