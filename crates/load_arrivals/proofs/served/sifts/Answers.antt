use Rattle.std.proofs.Common.{arith, ◌<◌, length, replicate}
use Rattle.std.proofs.lemmas.List.{set-append_left, take-append-drop}
use Rattle.load_arrivals.proofs.Steps.{in_part, part_end, choices_start, choices_more, choices_put, choices_done}
use Rattle.load_arrivals.proofs.served.sifts.Goals as goal

pub loop-a-init : goal.loop-a-init
loop-a-init c = choices_start _ _ _ _ _ (take-append-drop c.args.h.actives (replicate 16 0))

pub serve-requires : goal.serve-requires
serve-requires c =
    let pre = c.requires in
    (pre.0, in_part c.args.h.actives 16 0 pre.0.1 c.loop-a-test.true, pre.1, pre.2, pre.3)

pub loop-a-preserved : goal.loop-a-preserved
loop-a-preserved c =
    let at = c.loop-a in
    let m = c.requires.0.1 in
    let here : at.a < length at.passives-items = omega (arith, at.auto.passives-items) in
    let below : at.a < c.args.h.actives = in_part c.args.h.actives 16 0 m c.loop-a-test.true in
    choices_put _ _ _ _ _ at.a (set-append_left at.passives-items _ at.a _ here)
    (choices_more _ _ _ _ _ _ (omega (arith, below, m)) at.invariant c.serve.ensures)

pub returns : goal.returns
returns c =
    choices_done _ _ _ _ _ _ _
    (part_end c.args.h.actives 16 0 c.requires.0.1 c.loop-a-test.false c.loop-a.auto.a-end) c.loop-a.invariant
