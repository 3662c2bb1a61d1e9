use Rattle.plan.proofs.JointLaws.{byte_tested}
use borrow.Author.Rules.{rules}
use Rattle.plan.proofs.joints.joint_byte_ok.Goals as goal

pub returns : goal.returns
returns c = λ h r a p. rw (c.numbers-most.ensures, r, a, p) (byte_tested h c.args.v (search rules))
