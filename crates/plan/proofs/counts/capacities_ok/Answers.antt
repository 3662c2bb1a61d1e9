use Rattle.plan.specs.Head.{capacities_ok}
use Rattle.plan.proofs.counts.capacities_ok.Goals as goal

pub returns : goal.returns
unfolding capacities_ok
returns c =
    simp (
      c.capacity_ok.ensures,
      c.capacity_ok-2.ensures,
      c.capacity_ok-3.ensures,
      c.capacity_ok-4.ensures,
      c.capacity_ok-5.ensures,
      c.capacity_ok-6.ensures,
      c.capacity_ok-7.ensures,
      c.capacity_ok-8.ensures,
    )
