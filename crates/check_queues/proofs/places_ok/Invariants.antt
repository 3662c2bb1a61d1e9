use Rattle.plan_queues.specs.Queue.{queue_at}
use Rattle.plan.specs.Lent.{plan_by}
use Prim.Native.Nat.{◌≤◌}
use Rattle.check_queues.proofs.Turns.{Seen}
use Rattle.check_queues.proofs.places_ok.Given as goal

abbrev pub invariant-loop-k : goal.invariant-loop-k
invariant-loop-k l =
    (l.k ≤ l.m) × Seen (plan_by l.h l.t) (queue_at (plan_by l.h l.t) l.n) l.done l.i
    l.s l.initial.spent l.k l.spent
