use native.Mathlib.Omega.{arith}
use Rattle.check_connections.proofs.Tying.{tying_none, tying_port, tying_key, tying_more, tying_fail, tying_done}
use Rattle.check_connections.proofs.tie_ok.Goals as goal

pub loop-n-init : goal.loop-n-init
loop-n-init c = (omega arith, tying_none _ c.requires.0 _ c.requires.3)

pub leaves-k-requires : goal.leaves-k-requires
leaves-k-requires c =
    let w = c.requires.0 in
    let p = tying_port _ w _ c.loop-n.invariant.1 c.loop-n-test.true in
    let e = w.column in
    let a = w.range.actives.1 in
    let q = w.range.passives.1 in
    let k = w.has_passive in
    (omega arith, omega arith)

pub slot_at-x-requires : goal.slot_at-x-requires
slot_at-x-requires c =
    let w = c.requires.0 in
    let p = tying_port _ w _ c.loop-n.invariant.1 c.loop-n-test.true in
    let s = w.range.slots.1 in
    let l = c.requires.1 in
    (omega arith, omega arith, omega arith)

pub overflow_mul-k : goal.overflow_mul-k
overflow_mul-k c =
    let w = c.requires.0 in
    let k = tying_key _ w _ c.loop-n.invariant.1 c.loop-n-test.true
    (c.leaves-k.ensures _ _) in
    omega arith

pub overflow_add-table : goal.overflow_add-table
overflow_add-table c =
    let k = tying_key _ c.requires.0 _ c.loop-n.invariant.1 c.loop-n-test.true
    (c.leaves-k.ensures _ _) in
    let l = c.requires.2 in
    let e = c.table_row-table.ensures in
    omega arith

pub overflow_add-table-in-loop-n : goal.overflow_add-table-in-loop-n
overflow_add-table-in-loop-n c =
    let k = tying_key _ c.requires.0 _ c.loop-n.invariant.1 c.loop-n-test.true
    (c.leaves-k.ensures _ _) in
    let r = c.requires.0.range.slots.1 in
    let s = c.slot_at-x.ensures.1 in
    let l = c.requires.2 in
    let e = c.table_row-table.ensures in
    omega arith

pub claim-requires : goal.claim-requires
claim-requires c =
    let k = tying_key _ c.requires.0 _ c.loop-n.invariant.1 c.loop-n-test.true
    (c.leaves-k.ensures _ _) in
    let r = c.requires.0.range.slots.1 in
    let s = c.slot_at-x.ensures.1 in
    let l = c.requires.2 in
    let e = c.table_row-table.ensures in
    (omega arith, omega arith, omega arith, omega arith)

pub returns-then-not-claim : goal.returns-then-not-claim
returns-then-not-claim c =
    let slot = c.slot_at-x.ensures in
    tying_fail _ c.requires.0 _ c.loop-n.invariant.1 c.loop-n-test.true
    (c.leaves-k.ensures _ _) slot.0 slot.1 c.table_row-table.ensures
    c.claim.ensures (c.if-not-claim.true)

pub bounds-t-k : goal.bounds-t-k
bounds-t-k c =
    let w = c.requires.0 in
    let k = tying_key _ w _ c.loop-n.invariant.1 c.loop-n-test.true
    (c.leaves-k.ensures _ _) in
    omega arith

pub loop-n-preserved : goal.loop-n-preserved
loop-n-preserved c =
    let slot = c.slot_at-x.ensures in (
      omega arith,
      tying_more _ c.requires.0 _ c.loop-n.invariant.1 c.loop-n-test.true
          (c.leaves-k.ensures _ _) slot.0 slot.1 c.table_row-table.ensures
          c.claim.ensures (c.if-not-claim.false) c.from-at.ensures,
    )

pub returns : goal.returns
returns c = tying_done _ c.requires.0 _ c.loop-n.invariant.1 (omega arith)
