use mathlib.Core.Path.{◌≡◌}
use mathlib.Core.Bool.{not}
use Prim.Native.Nat.{◌≤◌}
use lib.Dec.{eqb}
use Rattle.check_idle.specs.Bytes.{bytes_within, byte_open}
use Rattle.check_table.proofs.bytes_ok.Given as goal

abbrev pub invariant-loop-k : goal.invariant-loop-k
invariant-loop-k l = (l.k ≤ 64) × (eqb l.bad 0 ≡ bytes_within l.i l.k l.l l.s) × (eqb l.free 0 ≡ not
    (byte_open l.i l.k l.l l.s))
