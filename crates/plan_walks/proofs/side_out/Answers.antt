use Rattle.plan_walks.proofs.Through.{route_is}
use Rattle.plan_walks.proofs.side_out.Goals as goal

pub returns : goal.returns
returns c = λ h joints. route_is h _ joints _ _ c.side_of.ensures
