use Rattle.bytes_rows.proofs.Joining.{joined}
use Rattle.bytes_rows.proofs.starts.join.Goals as goal

pub returns : goal.returns
returns c =
    joined _ _ _ c.word-w.ensures
    c.from.ensures c.with.ensures
    c.put_word.ensures
