use Rattle.plan.specs.Tables.{table_plan}
use Rattle.phase_read.proofs.Offsets.{table_head, header_within}
use Rattle.phase_write.proofs.Phase.{write_starts, slot_below, write_done}
use native.Mathlib.Omega.{arith}
use lib.ListN.{length-set}
use Rattle.phase_write.proofs.write.Goals as goal

pub bounds-s-1 : goal.bounds-s-1
bounds-s-1 c = let w = header_within (table_plan _ _ _) c.requires.1 in omega arith

pub slot_next-slot-requires : goal.slot_next-slot-requires
slot_next-slot-requires c = (
  slot_below (table_head _ _ _) c.requires.0.range c.requires.0.wired
      c.requires.1,
  c.requires.0.range.slots.1,
)

pub send_all-requires : goal.send_all-requires
send_all-requires c = (
  c.requires.0,
  write_starts (table_head _ _ _)
      c.requires.0.range c.requires.0.wired
      c.requires.1,
)

pub bounds-s-1-2 : goal.bounds-s-1-2
bounds-s-1-2 c =
    let w = header_within (table_plan _ _ _) c.requires.1 in
    omega (arith, c.send_all.auto.s)

pub bounds-s-0 : goal.bounds-s-0
bounds-s-0 c =
    let w = header_within (table_plan _ _ _) c.requires.1
    in simp length-set (omega (arith, c.send_all.auto.s))

pub returns : goal.returns
returns c =
    write_done (table_head _ _ _) c.requires.0.range
    c.requires.0.wired
    c.slot_next-slot.ensures c.send_all.ensures
    c.from.ensures
