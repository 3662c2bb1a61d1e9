use Rattle.graph_met.proofs.Trailing.{started_trailed}
use native.Mathlib.Omega.{arith}
use Rattle.graph_met.proofs.trails.Goals as goal

pub rounds-requires : goal.rounds-requires
rounds-requires c =
    let pre = c.requires in
    let begun = c.starts in
    let long = begun.auto.up in (
      pre.0,
      pre.1,
      pre.2,
      omega (arith, pre.4, long),
      started_trailed _ _ _ pre.0 (omega (arith, pre.4, long)) pre.2 pre.3 begun.ensures,
    )
