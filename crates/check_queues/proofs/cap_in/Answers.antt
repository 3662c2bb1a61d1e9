use borrow.Author.Tests.{lt-ltb, le-ltb}
use Rattle.check_queues.proofs.cap_in.Goals as goal

pub returns-then-k-lt4 : goal.returns-then-k-lt4
unfolding Rattle.check_queues.specs.Lines.cap_in
returns-then-k-lt4 c = simp (lt-ltb _ _ c.if-k-lt4.true)

pub returns-then-k-lt8 : goal.returns-then-k-lt8
unfolding Rattle.check_queues.specs.Lines.cap_in
returns-then-k-lt8 c = simp (le-ltb _ _ c.if-k-lt4.false, lt-ltb _ _ c.if-k-lt8.true)

pub returns-then-k-lt2 : goal.returns-then-k-lt2
unfolding Rattle.check_queues.specs.Lines.cap_in
returns-then-k-lt2 c =
    simp (le-ltb _ _ c.if-k-lt4.false, le-ltb _ _ c.if-k-lt8.false, lt-ltb _ _ c.if-k-lt2.true)

pub returns : goal.returns
unfolding Rattle.check_queues.specs.Lines.cap_in
returns c =
    simp (le-ltb _ _ c.if-k-lt4.false, le-ltb _ _ c.if-k-lt8.false, le-ltb _ _ c.if-k-lt2.false)
