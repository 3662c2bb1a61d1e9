use native.Mathlib.Omega.{arith}
use Rattle.plan_routes.proofs.Marks.{side_small, row_first}
use Rattle.plan_routes.proofs.short_row.Goals as goal

pub returns : goal.returns
returns c =
    rw c.fits.ensures
    (row_first _ (side_small _ _) _ (omega arith) c.requires.3
    c.some-s.ensures c.lay.ensures)
