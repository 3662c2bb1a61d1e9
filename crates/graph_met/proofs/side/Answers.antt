use Rattle.graph_met.proofs.Trailing.{turn_small, turn_next}
use mathlib.Core.Path.{◌∙◌}
use Prim.Native.Nat.{◌+◌, ◌*◌}
use native.Mathlib.Omega.{arith}
use Rattle.graph_met.proofs.side.Goals as goal

pub lead-requires : goal.lead-requires
lead-requires c =
    let pre = c.requires in
    let at = c.from-n.ensures in (
      pre.0,
      rw at (pre.2 (4 * c.args.x + c.args.o) (omega arith)),
      pre.3,
      pre.4.3.old.shape,
      turn_small _ _ _ _ _ _ _ _ at (c.both-k.ensures ∙ rw c.through.ensures) pre.4.2
          pre.4.3,
    )

pub returns : goal.returns
returns c =
    let pre = c.requires in
    λ first b w. turn_next _ _ _ _ _ first b _ pre.0 pre.1 c.from-n.ensures
    (c.both-k.ensures ∙ rw c.through.ensures)
    c.lead.ensures w
