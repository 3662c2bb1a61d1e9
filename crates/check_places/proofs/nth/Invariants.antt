use mathlib.Core.Path.{◌≡◌}
use Prim.Native.Nat.{◌≤◌, ◌<◌}
use Rattle.basis.specs.Fold.{up_to}
use Rattle.check_places.specs.Look.{onward_of}
use Rattle.check_places.proofs.nth.Given as goal

abbrev pub invariant-loop : goal.invariant-loop
invariant-loop l =
    (l.counter ≤ l.n)
    × (l.r ≡ up_to (λ j. onward_of l.tables.routes l.tables.joints l.d) l.counter l.initial.r) × (l.r < 16)
