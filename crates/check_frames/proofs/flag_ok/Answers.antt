use Rattle.check_frames.proofs.Frames.{flag_none, flag_fed}
use borrow.Author.Tests.{eq-eqb, ne_eqb}
use Rattle.check_frames.proofs.flag_ok.Goals as goal

pub returns-then-f-eq0 : goal.returns-then-f-eq0
returns-then-f-eq0 c = rw (eq-eqb _ _ c.if-f-eq0.true) (flag_none _ _ _ c.if-f-eq0.true)

pub returns-then-not-executes : goal.returns-then-not-executes
returns-then-not-executes c = flag_fed _ _ _ c.if-f-eq0.false c.if-not-executes.true

pub returns-else-not-executes : goal.returns-else-not-executes
unfolding Rattle.check_frames.specs.Frame.flag_fits
returns-else-not-executes c = simp (c.if-not-executes.false, ne_eqb _ _ c.if-f-eq0.false)
