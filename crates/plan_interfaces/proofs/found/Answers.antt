use mathlib.Core.Path.{◌≡◌, ◌∙◌, sym, ap}
use Prim.Native.Nat.{◌*◌}
use native.Mathlib.Omega.{arith}
use Rattle.basis.specs.Fold.{up_to, up_none, up_more, up_done}
use Rattle.basis.specs.Bounded.{all_none}
use Rattle.plan.specs.Tables.{table_plan}
use Rattle.plan.specs.Rules.{named_ok}
use Rattle.plan.specs.Found.{found_of}
use Rattle.plan.proofs.JointTests.{all_and, all_end, byte_fits}
use Rattle.plan_interfaces.proofs.found.Goals as goal

pub loop-i-init : goal.loop-i-init
loop-i-init c = (omega arith, up_none _ _, sym (all_none _))

pub visit-ok-requires : goal.visit-ok-requires
visit-ok-requires c = (
  c.requires.0,
  omega arith,
  byte_fits _ _ c.requires.1 _ (omega arith),
)

pub loop-i-preserved : goal.loop-i-preserved
loop-i-preserved c = (
  omega arith,
  up_more _ _ _ c.loop-i.invariant.1 c.visit-ok.ensures.0,
  all_and _ _ c.loop-i.invariant.2 c.visit-ok.ensures.1,
)

pub returns : goal.returns
unfolding found_of named_ok table_plan
returns c =
    let end : c.loop-i.i ≡ 4 * c.args.h.routers = omega arith in (
      up_done _ _ c.loop-i.invariant.1 end ∙ ap (up_to _ _) c.requires.2,
      all_end _ c.loop-i.invariant.2
          end,
    )
