-- 'Calls, each with its refusals in order .. at the first that applies': conditions in document 01's order, and which
-- of them is the first to hold.
use Rattle.std.specs.Prelude.{◌≡◌, ◌⊎◌, List, [], ◌∷◌}
use Rattle.kinds.specs.declared.Refusal.{Refusal}

-- a refusal and its condition
pub record Condition : Type 1 where
  pub why : Refusal
  pub Holds : Type 0

abbrev pub condition : Refusal → Type 0 → Condition
condition w x = record { why = w; Holds = x }

-- the condition of w holds, and none before it in the list does
abbrev pub First : Refusal → List Condition → Type 0
First w [] = ⊥
First w (c ∷ cs) = ((c.why ≡ w) × c.Holds) ⊎ ((c.Holds → ⊥) × First w cs)

-- no condition of the list holds
abbrev pub NoneHolds : List Condition → Type 0
NoneHolds [] = record {}
NoneHolds (c ∷ cs) = (c.Holds → ⊥) × NoneHolds cs
