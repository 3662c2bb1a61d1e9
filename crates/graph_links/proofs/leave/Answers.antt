use Rattle.graph_links.proofs.Members.{leave_at}
use Rattle.graph_links.proofs.leave.Goals as goal

pub returns : goal.returns
returns c = leave_at _ _ _ _ _ c.requires.1
    (rw (← c.both.ensures) c.both-2.ensures)
