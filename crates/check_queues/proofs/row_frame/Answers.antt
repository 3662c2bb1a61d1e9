use Rattle.check_queues.proofs.row_frame.Goals as goal

pub returns : goal.returns
returns c =
    rw (← c.fed_at-fed.ensures, ← c.unit_at-unit.ensures) (rw c.from.ensures at c.frame_ok.ensures)
