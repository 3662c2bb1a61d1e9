use Prim.Native.Nat.{◌≤◌}
use mathlib.Core.Path.{◌≡◌}
use Rattle.basis.specs.Fold.{up_to}
use Rattle.load_arrivals.specs.Tables.{first_step}
use Rattle.load_arrivals.proofs.firsts.Given as goal

abbrev pub invariant-loop-d : goal.invariant-loop-d
invariant-loop-d l = (l.d ≤ l.n) × (l.t ≡ up_to (first_step l.by l.homes) l.d l.initial.t)
