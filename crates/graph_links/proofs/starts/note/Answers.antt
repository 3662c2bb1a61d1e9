use Rattle.std.proofs.Common.{arith, sym, ◌≡◌, ◌<◌, ◌∙◌, ◌++◌, drop, length, get_or}
use Rattle.std.proofs.lemmas.Grind.{common_steps}
use Rattle.std.proofs.lemmas.List.{set-append_left}
use Rattle.basis.specs.Fold.{up_none, up_done}
use Rattle.graph_links.specs.Starts.{notes_of}
use Rattle.graph_links.proofs.Laws.{notes_more}
use Rattle.graph_links.proofs.starts.note.Goals as goal

pub loop-x-init : goal.loop-x-init
loop-x-init c = grind (arith, common_steps) ∙ up_none _ _

pub loop-x-preserved : goal.loop-x-preserved
loop-x-preserved c =
    let here : c.loop-x.x < length c.loop-x.set-items = omega (arith, c.loop-x.auto.set-items) in
    let same : get_or (c.loop-x.set-items ++ drop c.args.n c.args.t.now) c.loop-x.x 0
    ≡ get_or c.loop-x.set-items c.loop-x.x 0 =
    grind (arith, common_steps) in
    sym (set-append_left c.loop-x.set-items _ c.loop-x.x _ here)
    ∙ notes_more _ c.args.m.now _ _ c.loop-x.invariant (rw same c.noted.ensures)

pub returns : goal.returns
unfolding notes_of
returns c = up_done _ _ c.loop-x.invariant (grind (arith, common_steps))
