use native.Mathlib.Omega.{arith}
use Rattle.next_queue.proofs.Numbered.{next_number, port_few}
use Rattle.next_queue.proofs.next.Goals as goal

pub next_of-requires : goal.next_of-requires
next_of-requires c = let w = c.requires.0 in let r = w.range.routers.1 in
    let a = w.range.actives.1 in let p = w.range.passives.1 in (
      (r, a, p),
      c.requires.1,
      rw c.from.ensures (omega arith),
      rw c.from-2.ensures (omega arith),
      λ d l. port_few _ _ _ _ w d l,
    )

pub returns-clause-queue : goal.returns-clause-queue
returns-clause-queue c = rw (
  c.next_of.ensures.queue,
  c.from-2.ensures,
  c.from.ensures,
  c.goes_back.ensures,
)
    (next_number _ _ _ _ c.requires.0 _ _ c.args.x
    c.requires.1 c.requires.4)
