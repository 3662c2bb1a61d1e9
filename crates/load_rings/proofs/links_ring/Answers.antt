use Rattle.load_rings.proofs.Found.{links_ring}
use Rattle.graph_next.proofs.Onward.{links_long}
use native.Mathlib.Omega.{arith}
use mathlib.Core.Path.{sym}
use Rattle.load_rings.proofs.links_ring.Goals as goal

pub slice_bounds-has_ring-end : goal.slice_bounds-has_ring-end
slice_bounds-has_ring-end c = sym (links_long _ _ _ c.links-some.ensures.0)

pub has_ring-requires : goal.has_ring-requires
has_ring-requires c =
    let made = c.links-some.ensures in
    let e = links_long _ _ _ made.0 in
    (omega arith, omega arith, made.1)

pub returns : goal.returns
returns c = λ pl homes told. links_ring c.requires told
    c.live-live.ensures
    c.leaves.ensures c.links-some.ensures.0
    c.has_ring.ensures
