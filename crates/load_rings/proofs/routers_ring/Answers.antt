use mathlib.Core.Path.{sym}
use native.Mathlib.Omega.{arith}
use Rattle.graph_next.proofs.Onward.{nexts_long}
use Rattle.load_rings.proofs.routers_ring.Goals as goal

pub slice_bounds-has_ring-end : goal.slice_bounds-has_ring-end
slice_bounds-has_ring-end c = sym (nexts_long _ _ _ _ c.nexts-some.ensures.0)

pub has_ring-requires : goal.has_ring-requires
has_ring-requires c =
    let made = c.nexts-some.ensures in
    let e = nexts_long _ _ _ _ made.0 in
    (omega arith, omega arith, made.1)

pub returns : goal.returns
returns c = rw c.nexts-some.ensures.0 at c.has_ring.ensures
