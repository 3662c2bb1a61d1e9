use mathlib.Core.Path.{◌≡◌}
use mathlib.Core.List.{List}
use Prim.Native.Nat.{ℕ, ◌+◌, ◌*◌, ◌≤◌}
use lib.ListN.{length}
use Rattle.plan_routes.specs.Marks.{side_at, fits_of, Row}
use Rattle.plan_routes.proofs.long_row.Given as goal

abbrev pub invariant-loop-j : goal.invariant-loop-j
invariant-loop-j l =
    (l.j ≤ l.g) × (length l.sides ≡ 4)
    × ((first : List ℕ) → Row (side_at l.plan l.at) l.f first l.initial.row l.initial.sides (fits_of l.initial.all)
    → Row (side_at l.plan l.at) (l.f + 8 * l.j) first l.row l.sides (fits_of l.all))
