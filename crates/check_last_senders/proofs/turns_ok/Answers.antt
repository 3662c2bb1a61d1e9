use mathlib.Core.Path.{◌∙◌}
use Rattle.check_last_senders.proofs.Ranks.{turns_none, turns_rest}
use Rattle.check_last_senders.proofs.turns_ok.Goals as goal

pub returns-then-zeros : goal.returns-then-zeros
returns-then-zeros c = turns_rest _ _ _ c.turn_row-i.ensures c.zeros.ensures c.if-zeros.true c.routers_fit.ensures

pub returns-else-zeros : goal.returns-else-zeros
returns-else-zeros c =
    c.if-zeros.false ∙ turns_none _ _ _ c.turn_row-i.ensures c.zeros.ensures c.if-zeros.false
