use native.Mathlib.Omega.{arith}
use Rattle.load.proofs.Right.{lent_counts}
use Rattle.export.proofs.Told.{size_none, size_some}
use Rattle.export.proofs.pandabrass_size.Goals as goal

pub returns-in_default : goal.returns-in_default
returns-in_default c = size_none _ c.fill.ensures.answer c.in_default.is

pub state_size-requires : goal.state_size-requires
state_size-requires c = lent_counts c.fill.ensures c.in-Ok.is

pub overflow_cast-result : goal.overflow_cast-result
overflow_cast-result c =
    let k = lent_counts c.fill.ensures c.in-Ok.is in
    let a = k.0 in
    let b = k.1 in
    let d = k.2 in
    let e = c.state_size.ensures in
    omega arith

pub returns : goal.returns
returns c =
    size_some _ c.fill.ensures.answer c.in-Ok.is
    c.state_size.ensures
