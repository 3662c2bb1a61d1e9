use Prim.Native.Nat.{◌≤◌}
use Rattle.plan.specs.Lent.{plan_by}
use Rattle.bytes_layout.specs.Decode.{decode}
use Rattle.check_connections.proofs.Tying.{Tying}
use Rattle.check_connections.proofs.tie_ok.Given as goal

abbrev pub invariant-loop-n : goal.invariant-loop-n
invariant-loop-n l =
    (l.n ≤ l.walk.length) × Tying (plan_by l.h l.t) (decode (plan_by l.h l.t) l.s) l.m l.walk.length
    l.n l.at l.claimed
