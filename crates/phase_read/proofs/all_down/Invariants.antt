use Prim.Native.Nat.{◌*◌, ◌≤◌}
use Rattle.phase_read.specs.Reading.{Down}
use Rattle.phase_read.proofs.all_down.Given as goal

abbrev pub invariant-loop-g : goal.invariant-loop-g
invariant-loop-g l = (l.g ≤ l.m) × Down (4 * l.g) l.s
