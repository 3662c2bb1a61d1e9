use mathlib.Core.Path.{refl}
use native.Mathlib.Omega.{arith}
use Rattle.check_state.proofs.Together.{body_places, body_allowances, body_tables, body_ties, phase_few}
use Rattle.check_state.proofs.Together.{body_turns, lent_given}
use Rattle.check_state.proofs.body_ok.Goals as goal

pub places_ok-requires : goal.places_ok-requires
unfolding Rattle.check_state.specs.Inspect.none_spent
places_ok-requires c =
    let p = c.requires in
    (p.0, p.1, phase_few _ _ p.2, refl)

pub returns-then-not-places_ok : goal.returns-then-not-places_ok
returns-then-not-places_ok c =
    let p = c.requires in
    body_places _ _ _ p.0.range _ p.1 p.2 c.places_ok.ensures (c.if-not-places_ok.true)

pub allowance_row-requires : goal.allowance_row-requires
allowance_row-requires c =
    let r = c.requires.0.range in
    ((r.routers.1, r.actives.1, r.passives.1), omega arith)

pub allowances_ok-requires : goal.allowances_ok-requires
allowances_ok-requires c =
    let p = c.requires in
    let r = p.0.range.actives.1 in
    let l = p.1 in
    let i = c.allowance_row.ensures in
    (omega arith, omega arith)

pub returns-then-not-allowances_ok : goal.returns-then-not-allowances_ok
returns-then-not-allowances_ok c =
    let p = c.requires in
    body_allowances _ _ _ p.0.range _ p.1 p.2 c.places_ok.ensures (c.if-not-places_ok.false) (rw (
      c.allowance_row.ensures,
      c.whole.ensures,
    ) at c.allowances_ok.ensures) (c.if-not-allowances_ok.true)

pub table_row-requires : goal.table_row-requires
table_row-requires c =
    let r = c.requires.0.range in
    (r.routers.1, r.actives.1, r.passives.1)

pub overflow_mul-h : goal.overflow_mul-h
overflow_mul-h c =
    let r = c.requires.0.range.routers.1 in
    omega arith

pub sides_ok-requires : goal.sides_ok-requires
sides_ok-requires c =
    let p = c.requires in
    let r = p.0.range.routers.1 in
    let s = p.0.range.slots.0 in
    let l = p.1 in
    let i = c.table_row.ensures in
    let k = c.from.ensures in
    (omega arith, omega arith, omega arith)

pub returns-then-not-sides_ok : goal.returns-then-not-sides_ok
returns-then-not-sides_ok c =
    let p = c.requires in
    body_tables _ _ _ p.0.range _ p.1 p.2 c.places_ok.ensures (c.if-not-places_ok.false) (rw
    (c.allowance_row.ensures, c.whole.ensures) at
    c.allowances_ok.ensures) (c.if-not-allowances_ok.false) (rw
    (c.table_row.ensures, c.from.ensures) at
    c.sides_ok.ensures) (c.if-not-sides_ok.true)

pub ties_ok-requires : goal.ties_ok-requires
ties_ok-requires c =
    let p = c.requires in
    lent_given _ _ _ _ _ _ _ p.0 p.1

pub returns-then-not-ties_ok : goal.returns-then-not-ties_ok
returns-then-not-ties_ok c =
    let p = c.requires in
    body_ties _ _ _ p.0.range _ p.1 p.2 c.places_ok.ensures (c.if-not-places_ok.false) (rw
    (c.allowance_row.ensures, c.whole.ensures) at
    c.allowances_ok.ensures) (c.if-not-allowances_ok.false) (rw
    (c.table_row.ensures, c.from.ensures) at
    c.sides_ok.ensures) (c.if-not-sides_ok.false) c.ties_ok.ensures
    (c.if-not-ties_ok.true)

pub turns_ok-requires : goal.turns_ok-requires
turns_ok-requires c =
    let p = c.requires in
    (p.0.range, p.1)

pub returns : goal.returns
returns c =
    let p = c.requires in
    body_turns _ _ _ p.0.range _ p.1 p.2 c.places_ok.ensures (c.if-not-places_ok.false) (rw
    (c.allowance_row.ensures, c.whole.ensures) at
    c.allowances_ok.ensures) (c.if-not-allowances_ok.false) (rw
    (c.table_row.ensures, c.from.ensures) at
    c.sides_ok.ensures) (c.if-not-sides_ok.false) c.ties_ok.ensures
    (c.if-not-ties_ok.false) c.turns_ok.ensures
