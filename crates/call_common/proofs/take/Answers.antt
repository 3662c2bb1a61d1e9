use mathlib.Core.Path.{ap}
use mathlib.Core.List.{List}
use Prim.Native.Nat.{ℕ, ◌+◌}
use native.Mathlib.Omega.{arith}
use lib.ListN.{set, length-set}
use Rattle.call_common.proofs.take.Goals as goal

pub pop-requires : goal.pop-requires
pop-requires c = (c.requires.1, c.requires.2, c.requires.3)

pub bounds-s-at : goal.bounds-s-at
bounds-s-at c = omega (arith, c.pop.auto.s)

pub shape_of-s : goal.shape_of-s
shape_of-s c = simp length-set c.pop.auto.s

pub returns : goal.returns
unfolding Rattle.call_common.specs.Visits.taken_at
returns c =
    ap (λ (b : List ℕ). set b (c.args.at + 1) 1) c.pop.ensures
