use borrow.Author.Tests.{lt-ltb, le-ltb}
use Rattle.check_frames.proofs.fed_in_router.Goals as goal

pub returns-then-k-lt4 : goal.returns-then-k-lt4
unfolding Rattle.check_frames.specs.Frame.fed_in_router
returns-then-k-lt4 c = simp (lt-ltb _ _ c.if-k-lt4.true, c.joined.ensures)

pub returns-then-k-lt8 : goal.returns-then-k-lt8
unfolding Rattle.check_frames.specs.Frame.fed_in_router
returns-then-k-lt8 c = simp (le-ltb _ _ c.if-k-lt4.false, lt-ltb _ _ c.if-k-lt8.true)

pub returns-then-j-lt2 : goal.returns-then-j-lt2
unfolding Rattle.check_frames.specs.Frame.fed_in_router
returns-then-j-lt2 c =
    simp (le-ltb _ _ c.if-k-lt4.false, le-ltb _ _ c.if-k-lt8.false, lt-ltb _ _ c.if-j-lt2.true)

pub returns : goal.returns
unfolding Rattle.check_frames.specs.Frame.fed_in_router
returns c =
    simp (
      le-ltb _ _ c.if-k-lt4.false,
      le-ltb _ _
          c.if-k-lt8.false,
      le-ltb _ _
          c.if-j-lt2.false,
      c.joined-2.ensures,
      c.cross_side.ensures.0,
    )
