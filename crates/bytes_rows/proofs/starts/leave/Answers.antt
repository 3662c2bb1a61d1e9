use Rattle.bytes_rows.proofs.Joining.{left}
use Rattle.bytes_rows.proofs.starts.leave.Goals as goal

pub returns : goal.returns
returns c =
    left _ _ _ c.word-w.ensures
    c.from.ensures c.without.ensures
    c.put_word.ensures
