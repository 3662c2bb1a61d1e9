use mathlib.Core.Path.{◌∙◌}
use Rattle.call_common.proofs.Rows.{long_still}
use Rattle.call_close.proofs.Steps.{close_made}
use Rattle.call_close.proofs.close_step.Goals as goal

pub push-requires : goal.push-requires
push-requires c = (c.requires.0, c.requires.1)

pub leave-requires : goal.leave-requires
leave-requires c =
    (long_still c.requires.2 c.push.auto.s, c.requires.5)

pub shape_of-s : goal.shape_of-s
shape_of-s c =
    c.leave.auto.s ∙ c.push.auto.s

pub returns : goal.returns
returns c =
    close_made _ _ _ _ _ _ _ c.tear_down-x.ensures c.push.ensures
    c.leave.ensures
