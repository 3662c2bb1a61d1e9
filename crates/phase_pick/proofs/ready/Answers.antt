use mathlib.Core.Path.{◌∙◌}
use Rattle.phase_pick.proofs.Tables.{range_of}
use Rattle.phase_pick.proofs.Steps.{holds_by, tells_by}
use Rattle.phase_pick.proofs.Choosing.{empty_tells, unhandled_tells, leaves_handled, leaves_passing}
use Rattle.phase_pick.proofs.Asked.{is_queue, row_room}
use native.Mathlib.Omega.{arith}
use Rattle.phase_pick.proofs.ready.Goals as goal

pub bounds-s-at : goal.bounds-s-at
bounds-s-at c =
    let p = c.requires in let q = row_room p.0 p.2 c.queue_row-at.ensures p.5 in
    omega arith

pub returns-then-s-at-eq0 : goal.returns-then-s-at-eq0
returns-then-s-at-eq0 c =
    let p = c.requires in empty_tells p.0.wired (range_of p.0) _ _ (is_queue p.0
    p.2) c.queue_row-at.ensures c.if-s-at-eq0.true

pub returns-then-s-at-eq0-2 : goal.returns-then-s-at-eq0-2
returns-then-s-at-eq0-2 c =
    let p = c.requires in unhandled_tells p.0.wired (range_of
    p.0) _ _ (is_queue p.0 p.2) (p.4 ∙ c.if-unit.true) c.queue_row-at.ensures c.if-s-at-eq0-2.true

pub may_go-requires : goal.may_go-requires
may_go-requires c =
    let p = c.requires in (
      p.0,
      p.1,
      p.2,
      p.3,
      holds_by _
          (leaves_handled p.0.wired (range_of p.0) _ (is_queue p.0 p.2) c.queue_row-at.ensures c.if-s-at-eq0.false
          c.if-s-at-eq0-2.false) p.5,
    )

pub returns-then-unit : goal.returns-then-unit
returns-then-unit c =
    let p = c.requires in tells_by _ (leaves_handled p.0.wired (range_of p.0) _ (is_queue p.0 p.2)
    c.queue_row-at.ensures c.if-s-at-eq0.false c.if-s-at-eq0-2.false) c.may_go.ensures

pub may_go-requires-2 : goal.may_go-requires-2
may_go-requires-2 c =
    let p = c.requires in (
      p.0,
      p.1,
      p.2,
      p.3,
      holds_by _ (leaves_passing p.0.wired (range_of p.0) _ (is_queue p.0 p.2) (p.4 ∙ c.if-unit.false)
          c.queue_row-at.ensures c.if-s-at-eq0.false) p.5,
    )

pub returns : goal.returns
returns c =
    let p = c.requires in tells_by _ (leaves_passing p.0.wired
    (range_of p.0) _ (is_queue p.0 p.2) (p.4 ∙ c.if-unit.false) c.queue_row-at.ensures c.if-s-at-eq0.false)
    c.may_go-2.ensures
