use mathlib.Core.Path.{refl}
use Rattle.plan_routes.specs.Marks.{lane_of}
use Rattle.plan_routes.proofs.lane.Goals as goal

pub returns : goal.returns
unfolding lane_of
returns c = refl
