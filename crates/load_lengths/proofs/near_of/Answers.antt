use Rattle.std.proofs.Common.{◌≡◌, ◌∙◌, refl, ap}
use Prim.Native.Nat.{ℕ}
use mathlib.Core.Bool.{Bool, true, false}
use mir.Val.{bool_byte}
use Rattle.basis.specs.Choice.{pick}
use Rattle.load_arrivals.specs.Tables.{near_of}
use Rattle.load_lengths.proofs.near_of.Goals as goal

-- the byte of a bool
byte : (b : Bool) → bool_byte b ≡ pick {A = ℕ} b 1 0
byte true = refl
byte false = refl

pub returns : goal.returns
unfolding near_of
returns c = c.from.ensures ∙ byte _ ∙ ap (λ (b : Bool). pick {A = ℕ} b 1 0) c.has.ensures
