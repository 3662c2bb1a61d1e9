use Rattle.calls.proofs.Opening.{unloaded_start, counts, range, short, started}
use Rattle.calls.proofs.start.Goals as goal

pub returns-in_default : goal.returns-in_default
returns-in_default c = unloaded_start c.fill-l.ensures c.unwrap_err.ensures _

pub state_size-requires : goal.state_size-requires
state_size-requires c = counts c.fill-l.ensures c.in-Ok.is

pub returns-then-state-state_size : goal.returns-then-state-state_size
returns-then-state-state_size c =
    short c.fill-l.ensures c.in-Ok.is c.state_size.ensures _ c.if-state-state_size.true

pub start-requires : goal.start-requires
start-requires c = (
  range c.fill-l.ensures c.in-Ok.is,
  rw c.state_size.ensures at c.if-state-state_size.false,
)

pub returns : goal.returns
returns c =
    started c.fill-l.ensures c.in-Ok.is c.state_size.ensures _ _ c.if-state-state_size.false c.start.ensures
