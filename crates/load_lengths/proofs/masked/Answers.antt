use Rattle.std.proofs.Common.{arith}
use Rattle.basis.specs.Fold.{up_none, up_fill, up_done}
use Rattle.load_arrivals.specs.Pairs.{mask_of}
use Rattle.load_lengths.proofs.masked.Goals as goal
use Rattle.load_lengths.proofs.masked.Goals.{then-has, else-has}

pub loop-p-init : goal.loop-p-init
loop-p-init c = up_none _ _

pub loop-p-preserved : goal.loop-p-preserved
loop-p-preserved c =
    elim c.if-has.branch [
      | then-has k ↦ up_fill _ _ _ c.loop-p.invariant (rw (← c.has.ensures, k.if-has.true) k.size-is)
      | else-has k ↦ up_fill _ _ _ c.loop-p.invariant (rw (← c.has.ensures, k.if-has.false) k.size-is)
    ]

pub returns : goal.returns
unfolding mask_of
returns c = λ z x e. rw (← e) (up_done _ _ c.loop-p.invariant (omega arith))
