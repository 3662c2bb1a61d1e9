-- The bytes that an accepted Launch leaves.
use Rattle.std.specs.Prelude.{List, ℕ, ◌-◌, get_or, set}
use Rattle.rules.specs.Visits.{setup_of}
use Rattle.bytes_layout.specs.Updates.{push_at}

-- 'a SETUP, hub 0, joins and the allowance falls by one'
unfoldable pub launched_at : ℕ → ℕ → ℕ → ℕ → ℕ → List ℕ → List ℕ
launched_at row byte a p t b = set (push_at row (setup_of a p t) b) byte (get_or b byte 0 - 1)
