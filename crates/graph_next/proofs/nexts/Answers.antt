use Rattle.std.proofs.Common.{arith, sym, ◌∙◌, ◌≡◌, ◌<◌, length}
use Rattle.std.proofs.lemmas.Grind.{common_steps}
use Rattle.std.proofs.lemmas.List.{set-append_left}
use Rattle.basis.specs.Fold.{up_none, up_fill, up_done}
use Rattle.graph_next.specs.Words.{nexts_of}
use Rattle.graph_next.proofs.Onward.{noted_some, somes_none, somes_more, somes_done}
use Rattle.graph_next.proofs.nexts.Goals as goal

pub loop-x-init : goal.loop-x-init
loop-x-init c = (grind (arith, common_steps) ∙ c.requires.1 ∙ up_none _ _, somes_none _)

pub loop-x-preserved : goal.loop-x-preserved
loop-x-preserved c =
    let at = c.loop-x in
    let here : at.x < length at.onward-items = omega (arith, at.auto.onward-items) in
    let made = c.next-v.ensures in (
      sym (set-append_left at.onward-items _ at.x _ here) ∙ up_fill _ _ _ at.invariant.0 made,
      somes_more _ _ at.invariant.1 made (noted_some _ _ _ c.noted-s.ensures),
    )

pub returns : goal.returns
unfolding nexts_of
returns c =
    let inv = c.loop-x.invariant in
    let end : c.loop-x.x ≡ c.args.n = grind (arith, common_steps) in
    (up_done _ _ inv.0 end, somes_done _ _ _ (omega arith) end inv.0 inv.1)
