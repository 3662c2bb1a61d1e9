use Rattle.plan.specs.Tables.{table_plan}
use Rattle.phase_read.proofs.Offsets.{table_head, range_counts}
use Rattle.phase_write.proofs.Turns.{rank_is, next_small, next_within, next_credit, last_within, send_done}
use Rattle.phase_write.proofs.Turns.{choice_within, send_none, sender_small, sender_within, sender_some, sender_few}
use Rattle.phase_write.proofs.Turns.{pair_of, onward_of, wire_within}
use native.Mathlib.Omega.{arith}
use Rattle.phase_write.proofs.send.Goals as goal

pub bounds-s-i : goal.bounds-s-i
bounds-s-i c =
    let w = choice_within (table_plan _ _ _) (table_head _ _ _) _ _ c.requires.1
    c.output_row-i.ensures c.requires.2 in omega arith

pub returns-then-c-eq0 : goal.returns-then-c-eq0
returns-then-c-eq0 c =
    send_none (table_plan _ _ _) (table_head _ _ _) _ _ c.requires.1
    c.output_row-i.ensures _ c.if-c-eq0.true

pub queue_row-requires : goal.queue_row-requires
queue_row-requires c =
    sender_small (table_plan _ _ _) (table_head _ _ _) _ _
    c.requires.1
    c.output_row-i.ensures (rank_is c.if-c-eq0.false c.from.ensures)
    c.sender_of-n.ensures c.requires.2
    c.requires.0.range

pub take-x-requires : goal.take-x-requires
take-x-requires c = (
  range_counts c.requires.0.range,
  c.requires.1,
  sender_within (table_plan _ _ _)
      (table_head _ _ _) _ _ c.requires.1
      c.output_row-i.ensures
      (rank_is c.if-c-eq0.false c.from.ensures) c.sender_of-n.ensures c.queue_row.ensures
      c.requires.2,
  sender_some (table_plan _ _ _)
      (table_head _ _ _) _ _ c.requires.1
      c.output_row-i.ensures
      (rank_is c.if-c-eq0.false c.from.ensures) c.sender_of-n.ensures c.queue_row.ensures
      c.requires.2,
  sender_few (table_plan _ _ _)
      (table_head _ _ _) _ _ c.requires.1
      c.output_row-i.ensures
      (rank_is c.if-c-eq0.false c.from.ensures) c.sender_of-n.ensures c.queue_row.ensures
      c.requires.2,
)

pub next-requires : goal.next-requires
next-requires c =
    let p = pair_of (table_plan _ _ _) (table_head _ _ _) _ _
    c.requires.1
    c.output_row-i.ensures
    (rank_is c.if-c-eq0.false c.from.ensures)
    c.sender_of-n.ensures
    c.queue_row.ensures c.take-x.ensures
    c.requires.2 in
    let u = onward_of (table_plan _ _ _) (table_head _ _ _) _ _
    c.requires.1
    c.output_row-i.ensures
    (rank_is c.if-c-eq0.false c.from.ensures)
    c.sender_of-n.ensures
    c.queue_row.ensures c.take-x.ensures
    c.requires.2 in (
      c.requires.0,
      c.requires.1,
      p.0,
      p.1,
      u,
    )

pub enter-requires : goal.enter-requires
enter-requires c = (
  wire_within (table_plan _ _ _) (table_head _ _ _) _ _
      c.requires.1
      c.output_row-i.ensures
      (rank_is c.if-c-eq0.false c.from.ensures)
      c.sender_of-n.ensures
      c.queue_row.ensures c.take-x.ensures
      c.requires.2,
  (let l = next_small (table_plan _ _ _) (table_head _ _ _) _ _
      c.requires.1
      c.output_row-i.ensures
      (rank_is c.if-c-eq0.false c.from.ensures)
      c.sender_of-n.ensures
      c.queue_row.ensures c.take-x.ensures
      c.in-Some.ensures.queue c.requires.2 c.requires.0.range in omega arith),
  next_within (table_plan _ _ _) (table_head _ _ _) _ _
      c.requires.1
      c.output_row-i.ensures
      (rank_is c.if-c-eq0.false c.from.ensures)
      c.sender_of-n.ensures
      c.queue_row.ensures c.take-x.ensures
      c.in-Some.ensures.queue c.requires.2,
  next_credit (table_plan _ _ _) (table_head _ _ _) _ _
      c.requires.1
      c.output_row-i.ensures
      (rank_is c.if-c-eq0.false c.from.ensures)
      c.sender_of-n.ensures
      c.queue_row.ensures c.take-x.ensures
      c.in-Some.ensures.queue c.requires.2,
)

pub remember-requires : goal.remember-requires
remember-requires c =
    let p = c.requires in
    let k = rank_is c.if-c-eq0.false c.from.ensures in (
      range_counts p.0.range,
      p.1,
      omega arith,
      last_within (table_plan _ _ _) (table_head _ _ _) _ _ p.1 c.output_row-i.ensures k
          c.sender_of-n.ensures c.queue_row.ensures
          c.take-x.ensures c.in-Some.ensures.queue
          c.enter.ensures p.2,
    )

pub returns : goal.returns
returns c =
    send_done (table_plan _ _ _) (table_head _ _ _) _ _ c.requires.1
    c.output_row-i.ensures (rank_is c.if-c-eq0.false c.from.ensures)
    c.sender_of-n.ensures c.queue_row.ensures
    c.take-x.ensures c.in-Some.ensures.queue c.enter.ensures
    c.remember.ensures

pub unreachable-requires : goal.unreachable-requires
unreachable-requires c =
    let l = next_small (table_plan _ _ _) (table_head _ _ _) _ _
    c.requires.1
    c.output_row-i.ensures
    (rank_is c.if-c-eq0.false c.from.ensures)
    c.sender_of-n.ensures
    c.queue_row.ensures c.take-x.ensures
    c.in_default.ensures.queue c.requires.2 c.requires.0.range in absurd (omega arith)
