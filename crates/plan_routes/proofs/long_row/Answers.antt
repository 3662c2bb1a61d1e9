use native.Mathlib.Nat.{add-zero}
use mathlib.Core.Path.{◌≡◌}
use Prim.Native.Nat.{◌+◌, ◌-◌, ◌*◌, ◌/◌}
use native.Mathlib.Omega.{arith}
use Rattle.plan_routes.proofs.Marks.{side_small, row_first, row_more}
use Rattle.plan_routes.proofs.long_row.Goals as goal

pub lead-f-requires : goal.lead-f-requires
lead-f-requires c = (omega arith, omega arith)

pub some-all-requires : goal.some-all-requires
some-all-requires c = (omega arith, omega arith, omega arith, omega arith)

pub loop-j-init : goal.loop-j-init
loop-j-init c = (omega arith, c.lay.ensures.four, λ first w. rw add-zero w)

pub eight-s-requires : goal.eight-s-requires
eight-s-requires c =
    let whole = c.lead-f.ensures.2 (omega arith) in
    (omega arith, omega arith, omega arith, omega arith)

pub lay-requires-in-loop-j : goal.lay-requires-in-loop-j
lay-requires-in-loop-j c = (omega arith, c.loop-j.invariant.1)

pub loop-j-preserved : goal.loop-j-preserved
loop-j-preserved c =
    let f = c.lead-f.result in
    let j = c.loop-j.j in
    let next : f + 8 * (j + 1) ≡ f + 8 * j + 8 = omega arith in (
      omega arith,
      c.lay-in-loop-j.ensures.four,
      λ first w. rw (next, c.either-all.ensures)
          (row_more _ (side_small _ _) (f + 8 * j) 8 (omega arith)
          (omega arith) _ (c.loop-j.invariant.2 first w)
          c.eight-s.ensures c.lay-in-loop-j.ensures),
    )

pub tail-s-requires : goal.tail-s-requires
tail-s-requires c =
    let whole = c.lead-f.ensures.2 in
    (omega arith, omega arith, omega arith, omega arith, λ l. omega (arith, whole (omega arith)))

pub lay-requires-2 : goal.lay-requires-2
lay-requires-2 c = (omega arith, c.loop-j.invariant.1)

pub returns : goal.returns
returns c =
    let n = c.args.n in
    let f = c.lead-f.result in
    let d = f + 8 * ((n - f) / 8) in
    let first = row_first _ (side_small _ _) _ (omega arith)
    c.requires.3 c.some-all.ensures
    c.lay.ensures in
    let left : c.loop-j.j ≡ (n - f) / 8 = omega arith in
    let groups = rw left at (c.loop-j.invariant.2 _ first) in
    let all : d + (n - d) ≡ n = omega arith in
    rw (c.fits.ensures, c.either.ensures)
    (rw all at (row_more _ (side_small _ _) d (n - d) (omega arith) (omega arith) _ groups
    c.tail-s.ensures
    c.lay-2.ensures))
