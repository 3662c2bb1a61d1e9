use Rattle.basis.specs.Fold.{up_none, up_more}
use native.Mathlib.Omega.{arith}
use Rattle.load_arrivals.proofs.Steps.{near_step_lem, nears_done}
use Rattle.load_lengths.proofs.nears.Goals as goal

pub loop-p-init : goal.loop-p-init
loop-p-init c = (omega arith, up_none _ _)

pub port-k-requires : goal.port-k-requires
port-k-requires c = (omega arith, omega arith, c.requires.2)

pub offset_bounds-t-k : goal.offset_bounds-t-k
offset_bounds-t-k c = record { fits = omega (arith, c.port-k.ensures.1) }

pub bounds-t-k : goal.bounds-t-k
bounds-t-k c = omega (arith, c.port-k.ensures.1)

pub offset_bounds-z-k : goal.offset_bounds-z-k
offset_bounds-z-k c = record { fits = omega (arith, c.port-k.ensures.1) }

pub bounds-z-k : goal.bounds-z-k
bounds-z-k c = omega (arith, c.port-k.ensures.1)

pub loop-p-preserved : goal.loop-p-preserved
loop-p-preserved c = (
  omega arith,
  up_more _ _ _ c.loop-p.invariant.1
      (near_step_lem _ _ _ _ _ c.port-k.ensures.0 c.near_of.ensures),
)

pub returns : goal.returns
returns c = nears_done _ _ _ c.requires.3 c.loop-p.invariant.1 (omega arith)
