use native.Mathlib.Omega.{arith}
use lib.ListN.{length-set}
use Rattle.call_launch.proofs.Steps.{launch_made}
use Rattle.call_launch.proofs.launch_step.Goals as goal

pub set_up-x-requires : goal.set_up-x-requires
set_up-x-requires c = (omega arith, omega arith, omega arith)

pub push-requires : goal.push-requires
push-requires c = (c.requires.0, c.requires.1)

pub bounds-s-byte-2 : goal.bounds-s-byte-2
bounds-s-byte-2 c = omega (arith, c.push.auto.s)

pub shape_of-s : goal.shape_of-s
shape_of-s c = simp length-set c.push.auto.s

pub returns : goal.returns
returns c =
    launch_made _ _ _ _ _ _ c.set_up-x.ensures c.push.ensures
