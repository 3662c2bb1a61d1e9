use mathlib.Core.Path.{◌∙◌}
use native.Mathlib.Omega.{arith}
use Rattle.check_queues.proofs.Turns.{rows_join, rows_lost}
use lib.ListN.{get_or-replicate}
use Rattle.check_queues.proofs.interfaces_ok.Goals as goal

pub rows_ok-requires : goal.rows_ok-requires
rows_ok-requires c =
    let p = c.requires in
    let r = p.0.lent.range in
    let a = r.actives.1 in
    let n = p.1 in (
      p.0,
      omega arith,
      omega arith,
      p.2,
      λ k l. get_or-replicate 28 k _ 0 (omega arith) ∙ p.4 k l,
      p.3,
    )

pub returns-then-not-rows_ok : goal.returns-then-not-rows_ok
returns-then-not-rows_ok c =
    rows_lost _ _ _ _ _ (rw (c.if-not-rows_ok.true) at
    c.rows_ok.ensures)

pub overflow_add-from : goal.overflow_add-from
overflow_add-from c =
    let p = c.requires in
    let r = p.0.lent.range in
    let a = r.actives.1 in
    let n = p.1 in
    omega arith

pub rows_ok-requires-2 : goal.rows_ok-requires-2
rows_ok-requires-2 c =
    let p = c.requires in
    let r = p.0.lent.range in
    let a = r.passives.1 in
    let n = p.1 in (
      p.0,
      omega arith,
      omega arith,
      p.2,
      λ k l. get_or-replicate 28 k _ 0 (omega arith) ∙ p.5 k l,
      p.3,
    )

pub returns : goal.returns
returns c =
    rows_join _ _ _ _ _ (rw (c.if-not-rows_ok.false) at
    c.rows_ok.ensures) c.rows_ok-2.ensures
