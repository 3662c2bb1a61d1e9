use Prim.Native.Nat.{◌≤◌}
use mathlib.Core.Path.{◌≡◌}
use Rattle.basis.specs.Fold.{up_to}
use Rattle.load_arrivals.specs.Tables.{near_step}
use Rattle.load_lengths.proofs.nears.Given as goal

abbrev pub invariant-loop-p : goal.invariant-loop-p
invariant-loop-p l = (l.p ≤ l.passives) × (l.z ≡ up_to (near_step l.t l.homes l.actives) l.p l.initial.z)
