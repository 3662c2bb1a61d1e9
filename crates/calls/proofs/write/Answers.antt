use Rattle.calls.proofs.Opening.{unloaded, lent, unfit, wired, held, turned}
use Rattle.calls.proofs.write.Goals as goal

pub returns-in_default : goal.returns-in_default
returns-in_default c = unloaded c.fill-l.ensures c.unwrap_err.ensures _ _

pub inspect-c-requires : goal.inspect-c-requires
inspect-c-requires c = lent c.fill-l.ensures c.in-Ok.is

pub returns-in_default-c : goal.returns-in_default-c
returns-in_default-c c = unfit c.fill-l.ensures c.in-Ok.is c.inspect-c.ensures c.unwrap_err-in_default-c.ensures _

pub write-requires : goal.write-requires
write-requires c =
    let f = c.fill-l.ensures in
    (wired f c.in-Ok.is, held f c.in-Ok.is c.inspect-c.ensures c.in-Ok-c.is)

pub returns : goal.returns
returns c = turned c.fill-l.ensures c.in-Ok.is c.inspect-c.ensures c.in-Ok-c.is c.write.ensures
