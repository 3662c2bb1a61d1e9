use Rattle.plan_routes.proofs.Marks.{lead_ends}
use native.Mathlib.Omega.{arith}
use Rattle.plan_routes.proofs.lead.Goals as goal

pub returns-then-k-n : goal.returns-then-k-n
returns-then-k-n c = (omega arith, omega arith, λ l. lead_ends c.args.at)
