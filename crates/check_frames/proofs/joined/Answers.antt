use borrow.Author.Rules.{rules}
use Rattle.check_frames.proofs.Frames.{joined_said}
use Rattle.check_frames.proofs.joined.Goals as goal

pub returns : goal.returns
returns c = joined_said _ c.joint_of.ensures (λ e. search (rules, e)) (λ e. search (rules, e))
