use Prim.Native.Nat.{◌≤◌}
use Rattle.plan.specs.Lent.{plan_by}
use Rattle.check_connections.proofs.Exits.{Pairing}
use Rattle.check_connections.proofs.pairs_ok.Given as goal

abbrev pub invariant-loop-n : goal.invariant-loop-n
invariant-loop-n l =
    (l.n ≤ l.pairs) × Pairing (plan_by l.h l.t) l.s l.n l.claimed
