use Rattle.plan.specs.Tables.{table_plan}
use Rattle.phase_read.proofs.Offsets.{table_head}
use Rattle.phase_read.proofs.Arrivals.{wire_within, deliver_none, pair_of, next_small, joins_within, joins_room}
use Rattle.phase_read.proofs.Arrivals.{unit_of, deliver_full}
use native.Mathlib.Omega.{arith}
use Rattle.phase_read.proofs.deliver.Goals as goal

pub wire_at-w-requires : goal.wire_at-w-requires
wire_at-w-requires c =
    wire_within (table_plan _ _ _) (table_head _ _ _) _ _ c.requires.1
    c.output_row-i.ensures c.requires.2

pub returns-in_default : goal.returns-in_default
returns-in_default c =
    deliver_none (table_plan _ _ _) (table_head _ _ _) _ _ c.requires.1
    c.output_row-i.ensures _ c.wire_at-w.ensures
    c.in_default.is

pub next-requires : goal.next-requires
next-requires c =
    let pre = c.requires in
    let at = c.output_row-i.ensures in
    let read = c.wire_at-w.ensures in
    let full = c.in-Full.is in
    let p = pair_of (table_plan _ _ _) (table_head _ _ _) _ _ pre.1 at read full pre.2 in (
      pre.0,
      pre.1,
      p.0,
      p.1,
      unit_of (table_plan _ _ _) (table_head _ _ _) _ _ pre.1 at read full pre.2 c.at_unit-q.ensures,
    )

pub put_wire-requires : goal.put_wire-requires
put_wire-requires c =
    let pre = c.requires in
    wire_within (table_plan _ _ _) (table_head _ _ _) _ _ pre.1
    c.output_row-i.ensures pre.2

pub queue_row-requires : goal.queue_row-requires
queue_row-requires c =
    let pre = c.requires in
    let at = c.output_row-i.ensures in
    let read = c.wire_at-w.ensures in
    let full = c.in-Full.is in
    let l = next_small (table_plan _ _ _) (table_head _ _ _) _ _ pre.1 at read full pre.2
    c.in-Some.ensures.queue
    pre.0.range in omega arith

pub push-requires : goal.push-requires
push-requires c =
    let pre = c.requires in
    let at = c.output_row-i.ensures in
    let read = c.wire_at-w.ensures in
    let full = c.in-Full.is in
    let onto = c.in-Some.ensures.queue in
    let empty = c.put_wire.ensures in (
      joins_within (table_plan _ _ _) (table_head _ _ _) _ _ pre.1 at read full pre.2 onto c.queue_row.ensures
          empty,
      joins_room (table_plan _ _ _) (table_head _ _ _) _ _ pre.1 at read full pre.2 onto c.queue_row.ensures
          empty,
    )

pub returns : goal.returns
returns c =
    deliver_full (table_plan _ _ _) (table_head _ _ _) _ _ c.requires.1
    c.output_row-i.ensures
    c.wire_at-w.ensures c.in-Full.is c.in-Some.ensures.queue
    c.queue_row.ensures c.put_wire.ensures c.push.ensures

pub unreachable-requires : goal.unreachable-requires
unreachable-requires c =
    let pre = c.requires in
    let l = next_small (table_plan _ _ _) (table_head _ _ _) _ _ pre.1
    c.output_row-i.ensures c.wire_at-w.ensures c.in-Full.is pre.2
    c.in_default-next.ensures.queue
    pre.0.range in absurd (omega arith)
