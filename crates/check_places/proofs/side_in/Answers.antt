use mathlib.Core.Path.{◌≡◌}
use mathlib.Core.Bool.{true, false}
use Prim.Native.Nat.{◌+◌, ◌*◌, ◌/◌}
use Rattle.std.proofs.Common.{rules}
use Rattle.std.proofs.lemmas.Iterator.{first_from_Range}
use Rattle.check_places.specs.Look.{track_at, next_by}
use Rattle.check_places.proofs.SideIn.{by_start, by_search}
use Rattle.check_places.proofs.side_in.Goals as goal

pub returns-then-from-r-clause-side : goal.returns-then-from-r-clause-side
returns-then-from-r-clause-side c = by_start _ _ _ _ _ _ c.if-from-r.true

pub returns-clause-side : goal.returns-clause-side
returns-clause-side c =
    let a = c.args in
    by_search _ _ _ _ _ _ c.if-from-r.false c.find.result
    (first_from_Range _ _ _ c.find.result
    (λ k. next_by a.tables.now.joints a.tables.now.by (track_at a.up.now (a.from / 4) a.d) a.d (4 * a.r + k) ≡ true)
    (λ k. next_by a.tables.now.joints a.tables.now.by (track_at a.up.now (a.from / 4) a.d) a.d (4 * a.r + k) ≡ false)
    c.find.ensures.ran (λ k q h. search rules) (λ k q h. search rules))
