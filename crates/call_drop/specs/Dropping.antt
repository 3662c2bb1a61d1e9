-- The bytes that an accepted Drop leaves.
use Rattle.std.specs.Prelude.{Bool, true, false, List, ℕ, ◌+◌, ◌<◌, get_or, set}
use Rattle.basis.specs.Choice.{pick}
use Rattle.packets.specs.declared.Kind.{Kind}
use Rattle.packets.specs.declared.Kind.TheVariants.{Setup, Tdown, Ack, Nack}
use Rattle.packets.specs.declared.Packet.{Packet}
use Rattle.packets.specs.Counters.{start_slot}
use Rattle.plan.specs.declared.Head.{Head}
use Rattle.bytes_layout.specs.Updates.{join_start}
use Rattle.call_common.specs.Visits.{taken_at, starts_byte}

-- 'the packet is .. removed, the flag rises, the allowance grows by one'
unfoldable pub dropped_at : ℕ → ℕ → List ℕ → List ℕ
dropped_at row byte b = set (taken_at row b) byte (get_or b byte 0 + 1)

-- 'an ACK counts as accepted when dropped, with the numbers of the packet': its pair, and slot minus hub
abbrev pub is_ack : Kind → Bool
is_ack Setup = false
is_ack Tdown = false
is_ack Ack = true
is_ack Nack = false

abbrev pub accepted_at : Head → Packet → List ℕ → List ℕ
accepted_at h x b =
    join_start (starts_byte h x.active x.passive) (start_slot x.slot x.hub h.slots).0 b

unfoldable pub noted_at : Head → Packet → List ℕ → List ℕ
noted_at h x b = pick (is_ack x.kind) (accepted_at h x b) b

-- a packet with an active, a passive and a slot of the plan
pub record Named (h : Head) (x : Packet) : Type 0 where
  pub active : x.active < h.actives
  pub passive : x.passive < h.passives
  pub slot : x.slot.0 < h.slots
