use Rattle.plan.specs.Head.{head_of}
use Rattle.plan.proofs.counts.read_head.Goals as goal

pub returns : goal.returns
unfolding head_of
returns c =
    simp (
      c.from.ensures,
      c.from-2.ensures,
      c.from-3.ensures,
      c.field.ensures,
      c.field-2.ensures,
      c.field-3.ensures,
      c.field-4.ensures,
      c.capacity.ensures,
      c.capacity-2.ensures,
      c.capacity-3.ensures,
      c.capacity-4.ensures,
      c.capacity-5.ensures,
      c.capacity-6.ensures,
      c.capacity-7.ensures,
      c.capacity-8.ensures,
    )
