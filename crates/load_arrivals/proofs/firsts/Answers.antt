use Rattle.basis.specs.Fold.{up_none, up_more}
use native.Mathlib.Omega.{arith}
use Rattle.load_arrivals.proofs.Steps.{first_step_lem, firsts_done}
use Rattle.load_arrivals.proofs.firsts.Goals as goal

pub loop-d-init : goal.loop-d-init
loop-d-init c = (omega arith, up_none _ _)

pub port-k-requires : goal.port-k-requires
port-k-requires c = (omega arith, omega arith, c.requires.1)

pub offset_bounds-t-k : goal.offset_bounds-t-k
offset_bounds-t-k c = record { fits = omega (arith, c.port-k.ensures.1) }

pub bounds-t-k : goal.bounds-t-k
bounds-t-k c = omega (arith, c.port-k.ensures.1)

pub first_of-requires : goal.first_of-requires
first_of-requires c = (c.port-k.ensures.1, omega arith)

pub offset_bounds-t-k-in-loop-d : goal.offset_bounds-t-k-in-loop-d
offset_bounds-t-k-in-loop-d c = record { fits = omega (arith, c.port-k.ensures.1) }

pub bounds-t-k-in-loop-d : goal.bounds-t-k-in-loop-d
bounds-t-k-in-loop-d c = omega (arith, c.port-k.ensures.1)

pub loop-d-preserved : goal.loop-d-preserved
loop-d-preserved c = (
  omega arith,
  up_more _ _ _ c.loop-d.invariant.1
      (first_step_lem _ _ _ _ c.port-k.ensures.0 c.first_of.ensures),
)

pub returns : goal.returns
returns c = firsts_done _ _ c.requires.2 c.loop-d.invariant.1 (omega arith)
