use Rattle.plan_walks.proofs.Through.{same_default}
use Rattle.plan_walks.proofs.side_of.Goals as goal

pub returns : goal.returns
returns c = same_default c.args.row.now _ 0 7 c.requires
