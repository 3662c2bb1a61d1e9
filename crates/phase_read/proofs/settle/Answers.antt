use Rattle.phase_read.proofs.Flags.{flag_within, settle_none, credit_lacks, settle_up}
use native.Mathlib.Omega.{arith}
use Rattle.phase_read.proofs.settle.Goals as goal

pub bounds-s-i : goal.bounds-s-i
bounds-s-i c =
    let w = flag_within _ _ _ c.queue_row-i.ensures c.requires.1 in omega arith

pub returns-then-s-i-eq0 : goal.returns-then-s-i-eq0
returns-then-s-i-eq0 c = settle_none _ _ _ c.queue_row-i.ensures c.if-s-i-eq0.true

pub credit_up-c-requires : goal.credit_up-c-requires
credit_up-c-requires c =
    credit_lacks _ _ _ c.queue_row-i.ensures c.if-s-i-eq0.false
    c.requires.1

pub returns : goal.returns
returns c =
    settle_up _ _ _ c.queue_row-i.ensures c.if-s-i-eq0.false _
    c.credit_up-c.ensures
