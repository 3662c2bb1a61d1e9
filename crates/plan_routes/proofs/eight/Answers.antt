use Rattle.fields.specs.Bits.{field_of}
use Rattle.plan_routes.specs.Marks.{side_at}
use mathlib.Core.Path.{◌≡◌}
use Prim.Native.Nat.{ℕ, ◌+◌, ◌*◌, ◌/◌}
use Rattle.plan_routes.proofs.Marks.{group_none, group_more, side_near}
use native.Mathlib.Omega.{arith}
use Rattle.plan_routes.proofs.eight.Goals as goal

pub one-s0-requires : goal.one-s0-requires
one-s0-requires c = (omega arith, omega arith, omega arith, omega arith)

pub one-s1-requires : goal.one-s1-requires
one-s1-requires c = (omega arith, omega arith, omega arith, omega arith)

pub one-s2-requires : goal.one-s2-requires
one-s2-requires c = (omega arith, omega arith, omega arith, omega arith)

pub one-s3-requires : goal.one-s3-requires
one-s3-requires c = (omega arith, omega arith, omega arith, omega arith)

pub one-s4-requires : goal.one-s4-requires
one-s4-requires c = (omega arith, omega arith, omega arith, omega arith)

pub one-s5-requires : goal.one-s5-requires
one-s5-requires c = (omega arith, omega arith, omega arith, omega arith)

pub one-s6-requires : goal.one-s6-requires
one-s6-requires c = (omega arith, omega arith, omega arith, omega arith)

pub one-requires : goal.one-requires
one-requires c =
    let pre = c.requires in
    (omega arith, omega arith, omega arith, omega arith)

pub returns : goal.returns
returns c =
    let a = c.args in
    let g : ℕ → ℕ = side_at a.plan.now a.at in
    let whole : 8 * ((a.at + 3 * a.d) / 8) ≡ a.at + 3 * a.d = omega (
      arith,
      c.requires.3,
    ) in
    let side : (k : ℕ) → field_of a.plan.now (8 * ((a.at + 3 * a.d) / 8) + 3 * k) 3
    ≡ g (a.d + k) = λ k. side_near a.plan.now a.at a.d ((a.at + 3 * a.d) / 8) k whole in
    let g1 = group_more g a.d 0 (group_none g a.d a.row.now) (omega arith) (side 0)
    c.one-s0.ensures in
    let g2 = group_more g a.d 1 g1 (omega arith) (side 1)
    c.one-s1.ensures in
    let g3 = group_more g a.d 2 g2 (omega arith) (side 2)
    c.one-s2.ensures in
    let g4 = group_more g a.d 3 g3 (omega arith) (side 3)
    c.one-s3.ensures in
    let g5 = group_more g a.d 4 g4 (omega arith) (side 4)
    c.one-s4.ensures in
    let g6 = group_more g a.d 5 g5 (omega arith) (side 5) c.one-s5.ensures in
    let g7 = group_more g a.d 6 g6 (omega arith) (side 6) c.one-s6.ensures in
    group_more g a.d 7 g7 (omega arith) (side 7) c.one.ensures
