use mathlib.Core.Path.{refl, sym, ap, ◌∙◌}
use mathlib.Core.Bool.{Bool}
use Prim.Native.Nat.{ℕ}
use native.Mathlib.Omega.{arith}
use Rattle.std.proofs.Common.{rules}
use Rattle.basis.specs.Bounded.{all_below}
use Rattle.plan.specs.Plan.{Plan}
use Rattle.plan.specs.Lent.{plan_by}
use Rattle.rules.specs.Outputs.{output_at}
use Rattle.bytes_layout.specs.Decode.{decode}
use Rattle.check_rule.specs.Parts.{pick_test}
use Rattle.basis.specs.Ranges.{tests_all}
use Rattle.check_choices.proofs.Picking.{picks_all}
use Rattle.check_choices.proofs.picks_ok.Goals as goal

pub output_count-n-requires : goal.output_count-n-requires
output_count-n-requires c =
    let w = c.requires.0 in
    (w.range.routers.1, w.range.actives.1, w.range.passives.1)

pub output_row-at-requires : goal.output_row-at-requires
output_row-at-requires c =
    let w = c.requires.0 in
    ((w.range.routers.1, w.range.actives.1, w.range.passives.1), omega arith)

pub returns : goal.returns
returns c =
    let pl : Plan = plan_by c.args.h c.args.t.now in
    let test : ℕ → Bool = λ k. pick_test pl (decode pl c.args.s.now) (output_at pl k) in
    tests_all refl test _ c.all.ensures.runs (λ x b q h. search rules)
    ∙ ap (λ m. all_below m test) c.output_count-n.ensures.0 ∙ sym (picks_all _ _ _ _ c.requires.0 _)
