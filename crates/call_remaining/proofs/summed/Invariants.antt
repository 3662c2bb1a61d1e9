use Prim.Native.Nat.{◌*◌, ◌≤◌}
use mathlib.Core.Path.{◌≡◌}
use Rattle.call_remaining.specs.Counted.{apart}
use Rattle.call_remaining.proofs.summed.Given as goal

abbrev pub invariant-loop-k : goal.invariant-loop-k
invariant-loop-k l = (l.k ≤ l.n) × (l.m ≡ apart l.at l.width l.k l.s) × (l.m ≤ 255 * l.k)
