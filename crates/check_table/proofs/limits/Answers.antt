use mathlib.Core.Path.{refl, ◌∙◌}
use Prim.Native.Nat.{ℕ, ◌*◌}
use lib.ListN.{length-set}
use Rattle.check_table.proofs.Entries.{filled_none, filled_more, filled_done}
use native.Mathlib.Omega.{arith}
use Rattle.check_table.proofs.limits.Goals as goal

pub loop-t-init : goal.loop-t-init
loop-t-init c = (omega arith, refl, filled_none _)

pub loop-t-preserved : goal.loop-t-preserved
loop-t-preserved c = (
  omega arith,
  length-set {A = ℕ} c.loop-t.l (2 * c.loop-t.t) c.limit.result
      ∙ c.loop-t.invariant.1,
  filled_more _ c.loop-t.t _ c.loop-t.l (omega arith)
      c.loop-t.invariant.1 c.loop-t.invariant.2 c.limit.ensures,
)

pub returns : goal.returns
returns c = filled_done _ _ c.loop-t.l c.loop-t.invariant.2 (omega arith)
