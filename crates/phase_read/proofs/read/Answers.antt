use Rattle.plan.specs.Tables.{table_plan}
use Rattle.phase_read.proofs.Offsets.{table_head, range_counts, header_within}
use Rattle.phase_read.proofs.Phase.{whole_of, whole_then, read_done}
use native.Mathlib.Omega.{arith}
use Rattle.phase_read.proofs.read.Goals as goal

pub deliver_all-requires : goal.deliver_all-requires
deliver_all-requires c = (
  c.requires.0,
  whole_of (table_head _ _ _) c.requires.0.range
      c.requires.0.wired c.requires.1,
)

pub settle_all-requires : goal.settle_all-requires
settle_all-requires c = (
  range_counts c.requires.0.range,
  whole_then (table_head _ _ _)
      c.requires.0.range
      c.requires.0.wired
      c.deliver_all.ensures c.requires.1,
)

pub bounds-s-0 : goal.bounds-s-0
bounds-s-0 c =
    let w = header_within (table_plan _ _ _) c.requires.1 in omega (
      arith,
      c.settle_all.auto.s,
      c.deliver_all.auto.s,
    )

pub returns : goal.returns
returns c =
    read_done (table_head _ _ _) c.requires.0.range c.requires.0.wired
    c.deliver_all.ensures
    c.settle_all.ensures c.from.ensures
