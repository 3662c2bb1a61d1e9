use Prim.Native.Nat.{◌+◌, ◌*◌}
use mathlib.Core.Path.{◌≡◌}
use native.Mathlib.Omega.{arith}
use Rattle.graph_links.specs.Cells.{leaving_of}
use Rattle.graph_links.proofs.leaving_by.Goals as goal

pub returns : goal.returns
unfolding leaving_of
returns g c =
    let first : 4 * c.args.q + 0 ≡ 4 * c.args.q = omega arith in
    let start : c.args.from + 0 ≡ c.args.from = omega arith in
    rw (
      first,
      start,
      c.either-3.ensures,
      c.either-2.ensures,
      c.either.ensures,
      c.leaving-d.ensures,
      c.leaving-c.ensures,
      c.leaving-b.ensures,
      c.leaving-a.ensures,
    )
