use mathlib.Core.Path.{◌≡◌}
use Prim.Native.Nat.{ℕ, ◌+◌, ◌*◌, ◌/◌, ◌<◌}
use native.Mathlib.Omega.{arith}
use Rattle.fields.specs.Bits.{field_of}
use Rattle.plan_routes.specs.Marks.{side_at}
use Rattle.plan_routes.proofs.Marks.{begun_none, begun_more, side_near}
use Rattle.plan_routes.proofs.tail.Goals as goal

pub one_if-s0-requires : goal.one_if-s0-requires
one_if-s0-requires c = (omega arith, omega arith, omega arith, omega arith)

pub one_if-s1-requires : goal.one_if-s1-requires
one_if-s1-requires c = (omega arith, omega arith, omega arith, omega arith)

pub one_if-s2-requires : goal.one_if-s2-requires
one_if-s2-requires c = (omega arith, omega arith, omega arith, omega arith)

pub one_if-s3-requires : goal.one_if-s3-requires
one_if-s3-requires c = (omega arith, omega arith, omega arith, omega arith)

pub one_if-s4-requires : goal.one_if-s4-requires
one_if-s4-requires c = (omega arith, omega arith, omega arith, omega arith)

pub one_if-s5-requires : goal.one_if-s5-requires
one_if-s5-requires c = (omega arith, omega arith, omega arith, omega arith)

pub one_if-requires : goal.one_if-requires
one_if-requires c = (omega arith, omega arith, omega arith, omega arith)

pub returns : goal.returns
returns c =
    let a = c.args in
    let g : ℕ → ℕ = side_at a.plan.now a.at in
    let i : ℕ = (a.at + 3 * a.d) / 8 in
    let whole : 0 < a.m → 8 * i ≡ a.at + 3 * a.d = λ l. omega (arith, c.requires.4 l) in
    let side : (k : ℕ) → k < a.m → field_of a.plan.now (8 * i + 3 * k) 3 ≡ g (a.d + k) = λ k l.
    side_near a.plan.now a.at a.d i k (whole (omega arith)) in
    let g0 = begun_none g a.d a.m a.row.now in
    let g1 = begun_more g a.d 0 a.m g0 (omega arith) (side 0) c.one_if-s0.ensures in
    let g2 = begun_more g a.d 1 a.m g1 (omega arith) (side 1) c.one_if-s1.ensures in
    let g3 = begun_more g a.d 2 a.m g2 (omega arith) (side 2) c.one_if-s2.ensures in
    let g4 = begun_more g a.d 3 a.m g3 (omega arith) (side 3) c.one_if-s3.ensures in
    let g5 = begun_more g a.d 4 a.m g4 (omega arith) (side 4) c.one_if-s4.ensures in
    let g6 = begun_more g a.d 5 a.m g5 (omega arith) (side 5) c.one_if-s5.ensures in
    let g7 = begun_more g a.d 6 a.m g6 (omega arith) (side 6) c.one_if.ensures in
    g7.all (omega arith)
