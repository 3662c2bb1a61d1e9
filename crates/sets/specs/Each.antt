-- What comes of a set when its members are taken one by one, in a word of so many digits.
use Rattle.std.specs.Prelude.{◌≡◌, Option, None, Some, ℕ, ◌<◌}
use Rattle.sets.specs.Sets.{single, less, lowest, rest, highest}

-- the lowest member of s, and t is what is left; none where s is empty
abbrev pub TakesLowest : ℕ → ℕ → Option ℕ → ℕ → Type 0
TakesLowest digits s None t = (s ≡ 0) × (t ≡ 0)
TakesLowest digits s (Some i) t = (0 < s) × (i ≡ lowest s) × (i < digits) × (t ≡ rest s)

-- the highest member of s, and t is what is left
abbrev pub TakesHighest : ℕ → ℕ → Option ℕ → ℕ → Type 0
TakesHighest digits s None t = (s ≡ 0) × (t ≡ 0)
TakesHighest digits s (Some i) t = (0 < s) × (i ≡ highest s) × (i < digits) × (t ≡ less s (single i))
