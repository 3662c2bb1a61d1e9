use native.Mathlib.Omega.{arith}
use Rattle.bytes_rows.proofs.starts.word.Goals as goal

pub returns : goal.returns
unfolding Rattle.bytes_layout.specs.Decode.four_at
returns c = rw c.from_le_bytes.ensures (omega arith)
