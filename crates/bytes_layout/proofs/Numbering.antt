-- An entry's number gives back its router, its side and its slot: no row of the table is nobody's.
use mathlib.Core.Path.{◌≡◌}
use Prim.Native.Nat.{ℕ, ◌/◌, ◌%◌, ◌<◌}
use native.Mathlib.Omega.{arith}
use Rattle.plan.specs.Plan.{Plan, R}
use Rattle.bytes_layout.specs.Offsets.{router_entries, slot_room, entries, entry_index}

module _ (pl : Plan) where
  -- an entry's number gives back its router, its side and its slot, and these its number
  pub entry_named : (n : ℕ) → n < entries pl
      → (n / router_entries < R pl) × (n % router_entries / slot_room < 4) × (n % slot_room < slot_room)
      × (entry_index (n / router_entries) (n % router_entries / slot_room) (n % slot_room) ≡ n)
  entry_named n h = (omega arith, omega arith, omega arith, omega arith)
