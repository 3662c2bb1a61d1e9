use Rattle.std.proofs.Common.{arith, ◌∙◌}
use Rattle.std.proofs.Math.Pow.{pow_mono}
use Rattle.sets.specs.Laws.{below_code}
use Rattle.sets.proofs.below.Goals as goal

pub narrow-requires : goal.narrow-requires
narrow-requires g c =
    let fits = (below_code c.args.n c.args.n (omega arith) c.requires.1).2 in
    let more = pow_mono {i = c.args.n} c.requires.0 in
    omega arith

pub returns : goal.returns
returns g c = c.narrow.ensures ∙ (below_code c.args.n c.args.n (omega arith) c.requires.1).1
