use mathlib.Core.Path.{ap}
use mathlib.Core.List.{List}
use Prim.Native.Nat.{ℕ, ◌+◌}
use lib.ListN.{get_or, set}
use Rattle.call_drop.proofs.drop_step.Goals as goal

pub returns : goal.returns
unfolding Rattle.call_drop.specs.Dropping.dropped_at
returns c =
    ap
    (λ (b : List ℕ). set b c.args.byte
    (get_or c.args.s.now c.args.byte 0 + 1))
    c.take.ensures
