use Prim.Native.Nat.{◌≤◌}
use Rattle.plan_routes.specs.Marks.{side_at, Group}
use Rattle.plan_routes.proofs.some.Given as goal

abbrev pub invariant-loop-k : goal.invariant-loop-k
invariant-loop-k l = (l.k ≤ l.m) × Group (side_at l.plan l.at) l.d l.k l.initial.row l.row l.s
