use borrow.Author.Tests.{eq-eqb}
use Rattle.check_table.proofs.Entries.{unused_fit, sides_all}
use Rattle.check_table.proofs.sides_ok.Goals as goal

pub returns-then-m-n : goal.returns-then-m-n
returns-then-m-n c =
    rw (eq-eqb _ _ c.if-m-n.true)
    (sides_all _ _ _ _ _ (unused_fit _ _ _ _ c.requires.2 c.unused-m.ensures.1) c.if-m-n.true)
