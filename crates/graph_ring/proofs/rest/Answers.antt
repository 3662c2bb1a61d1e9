use Rattle.std.proofs.Common.{rules, ◌≡◌, take, ◌∙◌, arith}
use Rattle.std.specs.List.{fold}
use Rattle.sets.specs.Sets.{either}
use Rattle.basis.specs.Fold.{up_fold}
use Rattle.graph_ring.specs.Cells.{rest_of}
use Rattle.graph_ring.proofs.rest.Goals as goal

pub returns : goal.returns
unfolding rest_of
returns c =
    let run : c.fold.result ≡ fold either 0 (take c.args.n c.args.left.now) = search rules in
    run ∙ up_fold either 0 c.args.left.now c.args.n (omega arith)
