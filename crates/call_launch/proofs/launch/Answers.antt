use native.Mathlib.Omega.{arith}
use Rattle.call_common.proofs.Rows.{allowance_inside}
use Rattle.call_launch.proofs.Exits.{launch_begins, launch_allowance, launch_full, launched}
use Rattle.call_launch.proofs.launch.Goals as goal

pub returns-in-Err : goal.returns-in-Err
returns-in-Err c = c.in-Err.ensures _ (launch_begins _ _ _)

pub bounds-s-byte : goal.bounds-s-byte
bounds-s-byte c = allowance_inside c.requires.1 _ _ c.in_default.ensures.active c.allowance-byte.ensures

pub returns-then-s-byte-eq0 : goal.returns-then-s-byte-eq0
returns-then-s-byte-eq0 c =
    launch_allowance c.in_default.ensures c.requires.0 _ c.allowance-byte.ensures c.if-s-byte-eq0.true

pub returns-then-h-queued : goal.returns-then-h-queued
returns-then-h-queued c =
    launch_full c.in_default.ensures c.requires.0 _ c.allowance-byte.ensures c.if-s-byte-eq0.false
    c.active_out-row.result c.active_out-row.ensures.0 (omega (arith, c.queued.ensures))

pub returns : goal.returns
returns c =
    launched c.in_default.ensures c.requires.0 _ c.allowance-byte.ensures c.if-s-byte-eq0.false
    c.active_out-row.result c.active_out-row.ensures.0 (omega (arith, c.queued.ensures)) _ c.launch_step.ensures
