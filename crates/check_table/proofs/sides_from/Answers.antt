use Rattle.std.proofs.Common.{rules}
use Rattle.basis.specs.Bounded.{all_at}
use Rattle.basis.specs.Ranges.{tests_from}
use Rattle.check_table.proofs.Entries.{unused_fit}
use Rattle.check_table.proofs.sides_from.Goals as goal

pub returns : goal.returns
unfolding Rattle.check_idle.specs.Bytes.sides_fit
returns c =
    tests_from _ _ c.all.ensures.runs (λ x b q h. search rules)
    (all_at _ _ (unused_fit c.args.i c.args.s.now c.args.slots c.args.m c.requires.3 c.requires.4))
