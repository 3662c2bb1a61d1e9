-- What Rust and C get of a plan beside Load's answer: the count of the state's bytes.
use Rattle.std.specs.Prelude.{List, ℕ, Result, Ok, Err}
use Rattle.kinds.specs.declared.Refusal.{Refusal}
use Rattle.plan.specs.declared.Head.{Head}
use Rattle.load.specs.Load.{load_of}
use Rattle.bytes_steps.specs.Counts.{state_size}

-- the state's bytes of a plan that loads, else 0
abbrev pub size_in : Result Head Refusal → ℕ
size_in (Ok h) = state_size h
size_in (Err w) = 0

unfoldable pub size_of : List ℕ → ℕ
size_of p = size_in (load_of p)
