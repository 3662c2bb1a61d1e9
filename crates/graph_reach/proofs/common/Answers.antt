use Rattle.std.proofs.Common.{rules, ◌≡◌, take, ◌∙◌, arith}
use Rattle.std.specs.List.{fold}
use Rattle.sets.specs.Sets.{both}
use Rattle.basis.specs.Fold.{up_fold}
use Rattle.graph_reach.specs.Reach.{common_of}
use Rattle.graph_reach.proofs.common.Goals as goal

pub returns : goal.returns
unfolding common_of
returns c =
    let run : c.fold.result ≡ fold both c.args.full (take c.args.n c.args.t.now) = search rules in
    run ∙ up_fold both c.args.full c.args.t.now c.args.n (omega arith)
