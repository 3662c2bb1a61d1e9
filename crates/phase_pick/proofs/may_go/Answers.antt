use Rattle.phase_pick.proofs.Tables.{range_of}
use Rattle.phase_pick.proofs.Choosing.{credit_tells}
use Rattle.phase_pick.proofs.Asked.{read_at, is_queue, row_room, next_asks, onto_asks, onto_room}
use native.Mathlib.Omega.{arith}
use Rattle.phase_pick.proofs.may_go.Goals as goal

pub packet_at-x-requires : goal.packet_at-x-requires
packet_at-x-requires c =
    let p = c.requires in let q = row_room p.0 p.2 c.queue_row-at.ensures p.4 in omega arith

pub next-requires : goal.next-requires
next-requires c =
    let p = c.requires in let q = next_asks p.0 _ p.2 p.3 p.4 (read_at _ _ c.packet_at-x.ensures c.queue_row-at.ensures)
    in (p.0, p.1, q.0, q.1, q.2)

pub queue_row-requires : goal.queue_row-requires
queue_row-requires c =
    let p = c.requires in let l = onto_asks p.0 _ p.2 p.3 p.4
    (read_at _ _ c.packet_at-x.ensures c.queue_row-at.ensures) c.in-Some.ensures.queue in omega arith

pub bounds-s-queue_row : goal.bounds-s-queue_row
bounds-s-queue_row c =
    let p = c.requires in onto_room p.0 _ p.2 p.3 p.4 (read_at
    _ _ c.packet_at-x.ensures c.queue_row-at.ensures) c.in-Some.ensures.queue c.queue_row.ensures

pub returns : goal.returns
returns c =
    let p = c.requires in credit_tells p.0.wired (range_of p.0) _ _
    (is_queue p.0 p.2) p.3 (read_at _ _ c.packet_at-x.ensures c.queue_row-at.ensures) c.in-Some.ensures.queue
    c.queue_row.ensures

pub unreachable-requires : goal.unreachable-requires
unreachable-requires c =
    let p = c.requires in let l = onto_asks p.0 _ p.2 p.3 p.4
    (read_at _ _ c.packet_at-x.ensures c.queue_row-at.ensures) c.in_default.ensures.queue in absurd (omega arith)
