use Rattle.std.proofs.Common.{arith, sym, ◌∙◌, ◌<◌, ◌≤◌, ◌*◌, length, replicate}
use Rattle.std.proofs.lemmas.List.{set-append_left, take-append-drop}
use Rattle.basis.specs.Fold.{up_none, up_fill, up_done}
use Rattle.load_arrivals.specs.Tables.{nexts_of}
use Rattle.load_arrivals.proofs.Steps.{part_end}
use Rattle.load_arrivals.proofs.nexts.Goals as goal

pub loop-k-init : goal.loop-k-init
loop-k-init c = take-append-drop (4 * c.args.routers) (replicate 64 16) ∙ up_none _ _

pub loop-k-preserved : goal.loop-k-preserved
loop-k-preserved c =
    let at = c.loop-k in
    let here : at.k < length at.beyond-items = omega (arith, at.auto.beyond-items) in
    sym (set-append_left at.beyond-items _ at.k _ here) ∙ up_fill _ _ _ at.invariant c.next_of.ensures

pub returns : goal.returns
unfolding nexts_of
returns c =
    let few : 4 * c.args.routers ≤ 64 = omega (arith, c.requires) in
    up_done _ _ c.loop-k.invariant (part_end _ 64 16 few c.loop-k-test.false c.loop-k.auto.k-end)
