use Rattle.check_table.proofs.Entries.{within_none, within_next, open_none, open_next, both_done}
use native.Mathlib.Omega.{arith}
use Rattle.check_table.proofs.bytes_ok.Goals as goal

pub loop-k-init : goal.loop-k-init
loop-k-init c = (omega arith, within_none _ _ _, open_none _ _ _)

pub loop-k-preserved : goal.loop-k-preserved
loop-k-preserved c = (
  omega arith,
  within_next _ _ _ _ c.loop-k.invariant.1
      c.over.ensures c.join-bad.ensures,
  open_next _ _ _ _ c.loop-k.invariant.2
      c.vacant.ensures c.join-free.ensures,
)

pub returns : goal.returns
returns c = both_done _ _ _ _ c.loop-k.invariant.1 c.loop-k.invariant.2 (omega arith)
