use Rattle.plan.specs.Found.{port_of_cell}
use Rattle.basis.specs.Fold.{up_to, fill}
use Rattle.basis.specs.Bounded.{all_below}
use lib.Dec.{ltb}
use lib.ListN.{get_or}
use Prim.Native.Nat.{◌≤◌}
use mathlib.Core.Path.{◌≡◌}
use Rattle.plan_interfaces.proofs.homes.Given as goal

abbrev pub invariant-loop-d : goal.invariant-loop-d
invariant-loop-d l = (l.d ≤ l.n) × (l.r ≡ up_to (fill (λ k. port_of_cell (get_or l.t k 0))) l.d l.initial.r)
    × (l.ok ≡ all_below l.d (λ k. ltb (get_or l.t k 0) 64))
