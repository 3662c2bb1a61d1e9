use Rattle.plan.specs.Head.{counts_ok}
use Rattle.plan.proofs.counts.counts_ok.Goals as goal

pub returns : goal.returns
unfolding counts_ok
returns c = simp (
  c.is_within.ensures,
  c.is_within-2.ensures,
  c.is_within-3.ensures,
  c.is_within-4.ensures,
  c.from.ensures,
)
