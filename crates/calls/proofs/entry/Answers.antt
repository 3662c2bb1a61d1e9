use Rattle.calls.proofs.Opening.{unloaded, lent, unfit, range, ready, visited}
use Rattle.calls.proofs.entry.Goals as goal

pub returns-in_default : goal.returns-in_default
returns-in_default c = unloaded c.fill-l.ensures c.unwrap_err.ensures _ _

pub inspect-c-requires : goal.inspect-c-requires
inspect-c-requires c = lent c.fill-l.ensures c.in-Ok.is

pub returns-in_default-c : goal.returns-in_default-c
returns-in_default-c c = unfit c.fill-l.ensures c.in-Ok.is c.inspect-c.ensures c.unwrap_err-in_default-c.ensures _

pub entry-requires : goal.entry-requires
entry-requires c =
    let f = c.fill-l.ensures in
    (range f c.in-Ok.is, ready f c.in-Ok.is c.inspect-c.ensures c.in-Ok-c.is)

pub returns : goal.returns
returns c = visited c.fill-l.ensures c.in-Ok.is c.inspect-c.ensures c.in-Ok-c.is c.entry.ensures
