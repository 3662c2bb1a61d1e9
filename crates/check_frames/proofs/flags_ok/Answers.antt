use borrow.Author.Tests.{le-leb, lt-leb}
use Rattle.check_frames.proofs.flags_ok.Goals as goal

pub returns-then-f-gt1 : goal.returns-then-f-gt1
unfolding Rattle.check_frames.specs.Frame.flags_of
returns-then-f-gt1 c = simp (lt-leb _ _ c.if-f-gt1.true)

pub returns-then-m-gt1 : goal.returns-then-m-gt1
unfolding Rattle.check_frames.specs.Frame.flags_of
returns-then-m-gt1 c = simp (le-leb _ _ c.if-f-gt1.false, lt-leb _ _ c.if-m-gt1.true)

pub returns-then-cap-n : goal.returns-then-cap-n
unfolding Rattle.check_frames.specs.Frame.flags_of
returns-then-cap-n c =
    simp (le-leb _ _ c.if-f-gt1.false, le-leb _ _ c.if-m-gt1.false, lt-leb _ _ c.if-cap-n.true)

pub returns-then-flag_ok : goal.returns-then-flag_ok
unfolding Rattle.check_frames.specs.Frame.flags_of
returns-then-flag_ok c =
    simp (
      le-leb _ _ c.if-f-gt1.false,
      le-leb _ _
          c.if-m-gt1.false,
      le-leb _ _
          c.if-cap-n.false,
      ← c.flag_ok.ensures,
      c.if-flag_ok.true,
      c.mark_ok.ensures,
    )

pub returns : goal.returns
unfolding Rattle.check_frames.specs.Frame.flags_of
returns c =
    simp (
      le-leb _ _ c.if-f-gt1.false,
      le-leb _ _
          c.if-m-gt1.false,
      le-leb _ _
          c.if-cap-n.false,
      ← c.flag_ok.ensures,
      c.if-flag_ok.false,
    )
