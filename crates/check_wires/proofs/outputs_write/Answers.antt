use mathlib.Core.Path.{refl, ◌∙◌}
use Prim.Native.Nat.{◌+◌, ◌*◌}
use Rattle.std.proofs.Common.{rules}
use Rattle.check_rule.specs.Forms.{zeros}
use Rattle.basis.specs.Ranges.{tests_all}
use Rattle.check_wires.proofs.Phased.{write_all}
use Rattle.check_wires.proofs.outputs_write.Goals as goal

pub returns : goal.returns
returns c pl eh =
    tests_all refl (λ k. zeros (c.output_row-at.result + 7 * k) 6 c.args.s.now) _ c.all.ensures.runs
    (λ x b q h. search rules)
    ∙ write_all pl _ _ eh c.requires.2 _ _ c.output_row-at.ensures c.output_count-n.ensures.0
