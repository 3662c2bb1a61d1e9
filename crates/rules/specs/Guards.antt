-- The refusals of a call as tests in document 01's order: the first test that holds gives its refusal.
use Rattle.std.specs.Prelude.{◌≡◌, Bool, false, List, [], ◌∷◌}
use Rattle.std.proofs.Math.Option.{Option, none, some}
use Rattle.basis.specs.Choice.{pick}
use Rattle.kinds.specs.declared.Refusal.{Refusal}

-- a refusal and its test
pub record Guard : Type 0 where
  pub why : Refusal
  pub holds : Bool

abbrev pub guard : Refusal → Bool → Guard
guard w t = record { why = w; holds = t }

-- the refusal of the first test that holds
abbrev pub refusal_of : List Guard → Option Refusal
refusal_of [] = none
refusal_of (g ∷ gs) = pick g.holds (some g.why) (refusal_of gs)

-- no test holds
abbrev pub Passed : List Guard → Type 0
Passed [] = record {}
Passed (g ∷ gs) = (g.holds ≡ false) × Passed gs
