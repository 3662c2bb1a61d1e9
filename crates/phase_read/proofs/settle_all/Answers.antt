use mathlib.Core.Path.{refl, ◌∙◌}
use native.Mathlib.Omega.{arith}
use Rattle.phase_read.proofs.Flags.{settles_none, settles_at, settles_more, down_all, settles_down}
use Rattle.phase_read.proofs.Flags.{whole_long}
use Rattle.phase_read.proofs.settle_all.Goals as goal

pub all_down-requires : goal.all_down-requires
all_down-requires c =
    let p = c.requires in
    let q = c.queue_count-count.ensures in
    let w = whole_long p.1 in
    (omega arith, omega arith)

pub returns-then-all_down : goal.returns-then-all_down
returns-then-all_down c =
    let q = c.queue_count-count.ensures in
    settles_down (down_all (omega arith) (c.all_down.ensures c.if-all_down.true))

pub loop-n-init : goal.loop-n-init
loop-n-init c = (omega arith, settles_none _, refl)

pub settle-requires : goal.settle-requires
settle-requires c =
    let p = c.requires in
    let q = c.queue_count-count.ensures in
    (omega arith, settles_at c.loop-n.invariant.1 (omega arith) p.1)

pub loop-n-preserved : goal.loop-n-preserved
loop-n-preserved c =
    let q = c.queue_count-count.ensures in
    let at = c.loop-n.invariant in
    (omega arith, settles_more at.1 c.settle.ensures, c.settle.auto.s ∙ at.2)
