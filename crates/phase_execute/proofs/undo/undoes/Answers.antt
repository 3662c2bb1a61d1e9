use mathlib.Core.Path.{refl, ◌∙◌}
use native.Mathlib.Omega.{arith}
use Rattle.bytes_steps.specs.Acts.{steps_none}
use Rattle.phase_execute.proofs.Undoing.{undo_hold, undo_more}
use Rattle.phase_execute.proofs.undo.undoes.Goals as goal

pub loop-a-init : goal.loop-a-init
loop-a-init c = (omega arith, refl, steps_none _ _ _ _, refl)

pub undo_at-requires : goal.undo_at-requires
undo_at-requires c =
    let p = c.requires in let v = c.loop-a.invariant in let l = v.1 in (
      p.0,
      omega arith,
      undo_hold p.0 (omega arith) p.1 v.2,
    )

pub loop-a-preserved : goal.loop-a-preserved
loop-a-preserved c =
    let p = c.requires in let v = c.loop-a.invariant in let l = v.1 in (
      omega arith,
      v.1,
      undo_more p.0 (omega arith) v.2 c.undo_at.ensures,
      c.undo_at.auto.s ∙ v.3,
    )
