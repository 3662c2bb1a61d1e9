-- Counting what each active has spent: a table of bytes, each counted to 200 and no further. An active's whole is at
-- most 7, so more than that is never right.
use Rattle.std.specs.Prelude.{◌≡◌, List, ℕ, ◌+◌, ◌≤◌, ◌<◌, min, ltb, get_or, set, length}
use Rattle.basis.specs.Choice.{pick}
use Rattle.packets.specs.declared.Packet.{Packet}
use Rattle.rules.specs.Valid.{spends_kind}

abbrev pub most : ℕ
most = 200

-- n more of a count
unfoldable pub counted : ℕ → ℕ → ℕ
counted x n = pick (ltb x most) (x + n) x

-- a packet counted for its active
unfoldable pub tallied : Packet → List ℕ → List ℕ
tallied x t = set t x.active (counted (get_or t x.active 0) (spends_kind x.kind))

-- the table t grew by w, active by active
pub record Tallied (w : ℕ → ℕ) (t u : List ℕ) : Type 0 where
  pub long : length t ≡ 16 → length u ≡ 16
  pub grown : length t ≡ 16 → (a : ℕ) → a < 16 → min most (get_or u a 0) ≡ min most (get_or t a 0 + w a)
  pub small : length t ≡ 16 → ((a : ℕ) → a < 16 → get_or t a 0 ≤ most) → (a : ℕ) → a < 16 → get_or u a 0 ≤ most
