use mathlib.Core.Path.{ap, ◌∙◌}
use Rattle.sets.specs.Sets.{either}
use Rattle.plan_routes.proofs.Marks.{laid}
use Rattle.plan_routes.proofs.lay.Goals as goal

pub returns : goal.returns
returns c =
    laid _ _ c.args.sides.now c.requires.1
    (c.either.ensures ∙ ap (either _)
    c.lane.ensures)
    (c.either-2.ensures ∙ ap (either _)
    c.lane-2.ensures)
    (c.either-3.ensures ∙ ap (either _) c.lane-3.ensures)
    (c.either-4.ensures ∙ ap (either _) c.lane-4.ensures)
