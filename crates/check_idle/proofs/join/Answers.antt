use Rattle.check_idle.proofs.Stretch.{or_test}
use Rattle.check_idle.proofs.join.Goals as goal

pub returns : goal.returns
returns c = or_test c.args.a c.args.b
