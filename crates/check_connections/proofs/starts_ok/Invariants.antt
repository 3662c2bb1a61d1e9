use Rattle.plan.specs.Lent.{plan_by}
use Rattle.bytes_layout.specs.Decode.{decode}
use Rattle.check_connections.proofs.Starting.{Starting}
use Rattle.check_connections.proofs.starts_ok.Given as goal

abbrev pub invariant-loop-start : goal.invariant-loop-start
invariant-loop-start l =
    Starting (plan_by l.h l.t) (decode (plan_by l.h l.t) l.s) l.n l.word l.start-iterator.left l.claimed
