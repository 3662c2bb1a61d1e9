use Rattle.check_frames.proofs.Frames.{frame_none, frame_fed, frame_unfed}
use Rattle.check_frames.proofs.frame_ok.Goals as goal

pub returns-then-not-flags_ok : goal.returns-then-not-flags_ok
returns-then-not-flags_ok c = frame_none _ _ _ _ _ _ _ _ _ _ c.flags_ok.ensures (c.if-not-flags_ok.true)

pub returns-then-fed : goal.returns-then-fed
returns-then-fed c =
    rw (
      c.from.ensures,
      c.from-then-fed.ensures,
      c.from-then-fed-2.ensures,
      c.from-then-fed-3.ensures,
      c.from-then-fed-4.ensures,
    ) (frame_fed _ _ _ _ _ _ _ _ _ _
    c.flags_ok.ensures (c.if-not-flags_ok.false) c.if-fed.true)

pub returns : goal.returns
returns c =
    frame_unfed _ _ _ _ _ _ _ _ _ _ c.flags_ok.ensures (c.if-not-flags_ok.false)
    c.if-fed.false
