use mathlib.Core.Path.{refl}
use native.Mathlib.Omega.{arith}
use Rattle.plan_routes.proofs.one_if.Goals as goal

pub one-requires : goal.one-requires
one-requires c =
    (omega arith, omega arith, omega arith, omega arith)

pub returns-then-k-m : goal.returns-then-k-m
returns-then-k-m c = record { there = λ l. c.one.ensures; past = λ l. absurd (omega arith) }

pub returns : goal.returns
returns c = record { there = λ l. absurd (omega arith); past = λ l. (refl, refl) }
