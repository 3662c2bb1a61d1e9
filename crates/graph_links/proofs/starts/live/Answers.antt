use Rattle.std.proofs.Common.{arith, ◌≡◌, take, get_or}
use Rattle.std.proofs.lemmas.Grind.{common_steps}
use Rattle.basis.specs.Fold.{up_none, up_more, up_done}
use Rattle.graph_links.specs.Starts.{lives_of}
use Rattle.graph_links.proofs.Laws.{noted_live}
use Rattle.graph_links.proofs.starts.live.Goals as goal

pub loop-a-init : goal.loop-a-init
loop-a-init c = up_none _ _

pub loop-a-preserved : goal.loop-a-preserved
loop-a-preserved c =
    let same : get_or (take c.args.n c.args.served.now) c.loop-a.a 0 ≡ get_or c.args.served.now c.loop-a.a 0 =
    grind (arith, common_steps) in
    up_more _ _ _ c.loop-a.invariant (noted_live _ _ _ (rw same at c.noted-all.ensures))

pub returns : goal.returns
unfolding lives_of
returns c = up_done _ _ c.loop-a.invariant (grind (arith, common_steps))
