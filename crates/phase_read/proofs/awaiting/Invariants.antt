use Rattle.phase_read.proofs.Awaited.{NoneBelow}
use Rattle.phase_read.proofs.awaiting.Given as goal

abbrev pub invariant-loop-i : goal.invariant-loop-i
invariant-loop-i l = NoneBelow l.n l.i l.cap l.s
