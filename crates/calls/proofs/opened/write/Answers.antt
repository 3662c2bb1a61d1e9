use mathlib.Core.Path.{sym, ◌∙◌}
use Rattle.packets.specs.declared.Phase.TheVariants.{Write}
use Rattle.calls.proofs.Turning.{held_long, turn_refused, turn_held, turn_done}
use Rattle.calls.proofs.opened.write.Goals as goal

pub bounds-s-0 : goal.bounds-s-0
bounds-s-0 c = held_long _ c.requires.1

pub returns-then-s-from : goal.returns-then-s-from
returns-then-s-from c = turn_refused _ Write _ (λ z. c.if-s-from.true (z ∙ sym c.from.ensures))

pub write-requires : goal.write-requires
write-requires c = (
  c.requires.0,
  turn_held _ Write (c.if-s-from.false ∙ c.from.ensures)
      c.requires.1,
)

pub returns : goal.returns
returns c = turn_done _ Write _ _ (c.if-s-from.false ∙ c.from.ensures) c.write.ensures
