use Rattle.std.proofs.Common.{rules}
use native.Mathlib.Omega.{arith}
use Rattle.check_connections.proofs.Exits.{course_of, pair_none, pair_passive, pair_slot, pair_starts, pair_done}
use Rattle.check_connections.proofs.Exits.{pair_unserved}
use Rattle.check_connections.proofs.pair_ok.Goals as goal

pub returns-then-word-eq0 : goal.returns-then-word-eq0
returns-then-word-eq0 c =
    let p = c.requires in
    pair_none p.0 _ p.1 p.2 (λ j. search rules)
    c.if-word-eq0.true p.3

pub returns-then-h-p : goal.returns-then-h-p
returns-then-h-p c =
    let p = c.requires in
    pair_passive p.0 _ p.1 p.2 (omega arith) (omega arith) c.if-h-p.true

pub returns-then-not-are_slots : goal.returns-then-not-are_slots
returns-then-not-are_slots c =
    let p = c.requires in
    pair_slot p.0 _ p.1 p.2 (omega arith) (omega arith) c.if-h-p.false
    c.are_slots.ensures (c.if-not-are_slots.true)

pub returns-then-length-eq0 : goal.returns-then-length-eq0
returns-then-length-eq0 c =
    let p = c.requires in
    pair_unserved p.0 _ p.1 p.2 c.if-h-p.false c.are_slots.ensures
    (c.if-not-are_slots.false) (omega arith) (omega arith) c.from-length.ensures
    c.if-length-eq0.true

pub starts_ok-requires : goal.starts_ok-requires
starts_ok-requires c =
    let are-slots = c.are_slots.ensures in
    let passive = c.if-h-p.false in
    let p = c.requires in
    let r = p.0.wiring.range.actives.1 in
    let l = p.1 in (
      course_of p.0 _ _ (omega arith) passive c.from-length.ensures c.if-length-eq0.false
          c.from.ensures,
      omega arith,
      p.0.long,
      pair_starts p.0 _ p.1 p.2 passive are-slots (c.if-not-are_slots.false),
      p.3,
    )

pub returns : goal.returns
returns c =
    let p = c.requires in
    pair_done p.0 _ p.1 p.2 c.if-h-p.false c.are_slots.ensures
    (c.if-not-are_slots.false)
    (λ j. search rules) c.starts_ok.ensures
