use Prim.Native.Nat.{ℕ, ◌+◌}
use mathlib.Core.Path.{refl, ap}
use native.Mathlib.Omega.{arith}
use Rattle.phase_pick.proofs.Tables.{range_of}
use Rattle.phase_pick.proofs.Choosing.{steps_idle}
use Rattle.phase_pick.proofs.Asked.{up_room, up_sends, idle_rows, holds_open, steps_open, up_open}
use Rattle.phase_pick.proofs.up.Goals as goal

pub idle-requires : goal.idle-requires
idle-requires c =
    let p = c.requires in up_room p.0 p.1 c.base_of-n.ensures.0 c.queue_row.ensures p.2

pub returns-then-idle : goal.returns-then-idle
returns-then-idle c =
    let p = c.requires in steps_idle p.0.wired (range_of p.0) _ _ _
    (up_sends p.0 p.1 c.base_of-n.ensures.0 refl) (idle_rows c.args.s.now _ c.queue_row.ensures
    (c.idle.ensures c.if-idle.true))

pub pick-requires : goal.pick-requires
pick-requires c =
    let p = c.requires in (
      p.0,
      omega arith,
      up_sends p.0 p.1 c.base_of-n.ensures.0 c.first_of.ensures.0,
      holds_open p.0 (ap (λ (k : ℕ). k + 4) c.first_of.ensures.0) (up_open p.0 p.1) p.2,
    )

pub returns : goal.returns
returns c =
    let p = c.requires in
    steps_open p.0 (ap (λ (k : ℕ). k + 4) c.first_of.ensures.0) (up_open p.0
    p.1) c.pick.ensures
