use Rattle.std.proofs.Common.{sym, ◌∙◌}
use Rattle.load.proofs.Exits.{lent_accepted, lent_refused}
use Rattle.load.proofs.load.Goals as goal

pub returns-then-is_err : goal.returns-then-is_err
returns-then-is_err c =
    lent_refused _ _ (sym c.is_err.ensures.value ∙ c.if-is_err.true) c.fill-l.ensures.answer (
      (c.blank-then-is_err.ensures.routes, c.blank-then-is_err.ensures.by),
      c.blank-then-is_err.ensures.joints,
      c.blank-then-is_err.ensures.homes,
      c.blank-then-is_err.ensures.lengths,
    )

pub returns-else-is_err : goal.returns-else-is_err
returns-else-is_err c = lent_accepted _ _ (sym c.is_err.ensures.value ∙ c.if-is_err.false) c.fill-l.ensures
