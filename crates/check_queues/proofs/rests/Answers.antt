use mathlib.Core.Bool.{false≢true}
use native.Mathlib.Omega.{arith}
use Rattle.check_queues.proofs.rests.Goals as goal

pub returns-then-w-ne0 : goal.returns-then-w-ne0
returns-then-w-ne0 c = λ e. absurd (false≢true e)

pub idle-requires : goal.idle-requires
idle-requires c = let q = c.queue_row.ensures in let p = c.requires.1 in omega arith

pub returns : goal.returns
returns c = λ e.
    (c.if-w-ne0.false, rw c.queue_row.ensures at (c.idle.ensures e))
