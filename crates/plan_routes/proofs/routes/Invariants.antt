use Prim.Native.Nat.{◌≤◌}
use Rattle.plan_routes.proofs.Routing.{Rows}
use Rattle.plan_routes.proofs.routes.Given as goal

abbrev pub invariant-loop-r : goal.invariant-loop-r
invariant-loop-r l = (l.r ≤ l.routers) × Rows l.plan l.n l.at l.r l.t l.by l.ok
