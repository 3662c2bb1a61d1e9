use borrow.Author.Tests.{eq-eqb, ne_eqb}
use Rattle.check_frames.proofs.mark_ok.Goals as goal

pub returns-then-m-eq0 : goal.returns-then-m-eq0
unfolding Rattle.check_frames.specs.Frame.mark_fits
returns-then-m-eq0 c = simp (eq-eqb _ _ c.if-m-eq0.true)

pub returns-then-unit : goal.returns-then-unit
unfolding Rattle.check_frames.specs.Frame.mark_fits
returns-then-unit c = simp (ne_eqb _ _ c.if-m-eq0.false, c.if-unit.true)

pub returns-else-unit : goal.returns-else-unit
unfolding Rattle.check_frames.specs.Frame.mark_fits
returns-else-unit c = simp (ne_eqb _ _ c.if-m-eq0.false, c.if-unit.false)
