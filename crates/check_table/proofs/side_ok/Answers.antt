use mathlib.Core.Path.{sym, ◌∙◌}
use Rattle.check_table.proofs.Entries.{side_unused, side_by}
use Rattle.check_table.proofs.side_ok.Goals as goal

pub returns-then-side_zero : goal.returns-then-side_zero
returns-then-side_zero c =
    c.if-side_zero.true
    ∙ sym (side_unused _ _ _ c.requires.1 (sym c.side_zero.ensures ∙ c.if-side_zero.true))

pub returns-else-side_zero : goal.returns-else-side_zero
returns-else-side_zero c = side_by _ _ _ _ c.requires.2 c.bytes_ok.ensures
