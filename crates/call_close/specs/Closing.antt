-- The bytes that an accepted Close leaves.
use Rattle.std.specs.Prelude.{List, ℕ}
use Rattle.kinds.specs.declared.Hub.{Hub}
use Rattle.packets.specs.declared.Kind.TheVariants.{Tdown}
use Rattle.packets.specs.declared.Packet.{Packet}
use Rattle.bytes_layout.specs.Updates.{push_at, leave_start}

-- 'hub the number of routers on the walk'
abbrev pub whole : ℕ → Hub
whole n = record { 0 = n }

-- a TDOWN that has the whole walk ahead, n routers
abbrev pub tdown_with : ℕ → ℕ → ℕ → ℕ → Packet
tdown_with a p t n = record { kind = Tdown; active = a; passive = p; slot = record { 0 = t }; hub = whole n }

-- 'it puts a TDOWN in the active's out-queue .. and the connection leaves the accepted ones'
unfoldable pub closed_at : ℕ → ℕ → ℕ → ℕ → ℕ → ℕ → List ℕ → List ℕ
closed_at row at a p t n b = leave_start at t (push_at row (tdown_with a p t n) b)
