use mathlib.Core.Path.{◌≡◌, ◌∙◌}
use mathlib.Core.Logic.{◌⊎◌, inl, inr}
use mathlib.Core.Bool.{true, false}
use Prim.Native.Nat.{ℕ, min}
use native.Mathlib.Omega.{arith}
use lib.Dec.{ltb}
use borrow.Author.Tests.{ltb-true, ltb-false}
use Rattle.basis.specs.Choice.{pick, test}
use Rattle.check_state.proofs.whole.Goals as goal

least : (a b : ℕ) → min a b ≡ pick (ltb a b) a b
least a b = by (test (ltb a b))
  where
    by : (ltb a b ≡ true) ⊎ (ltb a b ≡ false) → min a b ≡ pick (ltb a b) a b
    by (inl e) = let l = ltb-true a b e in rw e (omega arith)
    by (inr e) = let l = ltb-false a b e in rw e (omega arith)

pub returns : goal.returns
unfolding Rattle.check_state.specs.Inspect.whole_of
returns c = c.min.ensures ∙ least c.args.h.aout.0 c.args.h.ain.0
