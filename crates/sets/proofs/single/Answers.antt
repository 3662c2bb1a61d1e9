use Rattle.std.proofs.Common.{arith, ◌∙◌}
use Rattle.sets.specs.Laws.{single_code, single_lt}
use Rattle.sets.proofs.single.Goals as goal

pub narrow-requires : goal.narrow-requires
narrow-requires g c =
    let room = g.met.W.Word.room in
    rw (single_code 64 c.args.i (omega arith)) (single_lt _ c.args.i c.requires)

pub returns : goal.returns
returns g c =
    let room = g.met.W.Word.room in
    c.narrow.ensures ∙ single_code 64 c.args.i (omega arith)
