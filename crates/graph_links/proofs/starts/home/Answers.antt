use native.Mathlib.Omega.{arith}
use Rattle.graph_links.proofs.starts.home.Goals as goal

pub returns : goal.returns
unfolding Rattle.graph_links.specs.Starts.home_row
returns c = (c.from.ensures, rw c.from.ensures (omega arith))
