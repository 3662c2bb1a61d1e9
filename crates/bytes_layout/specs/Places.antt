-- A packet's five bytes, and the places of a queue, any number of them: its packets from the first place on, and zero
-- bytes past them.
use Rattle.std.specs.Prelude.{◌≡◌, refl, List, [], ◌∷◌, ◌++◌, ℕ, zero, suc, ◌+◌, ◌*◌, ◌≤◌, length, get_or}
use Rattle.std.proofs.Common.{ap₂, arith}
use Rattle.packets.specs.declared.Packet.{Packet}
use Rattle.bytes_layout.specs.Rows.{RowStands, stands_left, stands_right, stands_get}
use Rattle.bytes_layout.specs.Offsets.{packet_kind, packet_active, packet_passive, packet_slot, packet_hub}
use Rattle.bytes_layout.specs.Offsets.{packet_width}
use Rattle.bytes_layout.specs.Codes.{kind_code, kind_of, kind_code_lem}

-- kind, active, passive, slot, hub
abbrev pub packet_bytes : Packet → List ℕ
packet_bytes x = kind_code x.kind ∷ x.active ∷ x.passive ∷ x.slot.0 ∷ x.hub.0 ∷ []

-- a place without a packet
abbrev pub no_packet : List ℕ
no_packet = 0 ∷ 0 ∷ 0 ∷ 0 ∷ 0 ∷ []

-- c places
unfoldable pub place_bytes : ℕ → List Packet → List ℕ
place_bytes zero xs = []
place_bytes (suc c) [] = no_packet ++ place_bytes c []
place_bytes (suc c) (x ∷ xs) = packet_bytes x ++ place_bytes c xs

-- five bytes a place, whatever the packets
pub length_places : (c : ℕ) (xs : List Packet) → length (place_bytes c xs) ≡ packet_width * c
unfolding place_bytes
length_places zero xs = refl
length_places (suc c) [] = omega (arith, length_places c [])
length_places (suc c) (x ∷ xs) = omega (arith, length_places c xs)

-- ---- read at an offset
unfoldable pub packet_at : ℕ → List ℕ → Packet
packet_at i b =
    record {
      kind = kind_of (get_or b (i + packet_kind) 0);
      active = get_or b (i + packet_active) 0;
      passive = get_or b (i + packet_passive) 0;
      slot = record { 0 = get_or b (i + packet_slot) 0 };
      hub = record { 0 = get_or b (i + packet_hub) 0 };
    }

-- n packets, as far as c places reach
unfoldable pub packets_at : ℕ → ℕ → ℕ → List ℕ → List Packet
packets_at zero n i b = []
packets_at (suc c) zero i b = []
packets_at (suc c) (suc n) i b = packet_at i b ∷ packets_at c n (i + packet_width) b

-- never more packets than places
pub packets_few : (c n i : ℕ) (b : List ℕ) → length (packets_at c n i b) ≤ c
unfolding packets_at
packets_few zero n i b = omega arith
packets_few (suc c) zero i b = omega arith
packets_few (suc c) (suc n) i b = let h = packets_few c n (i + packet_width) b in omega arith

-- ---- where they stand, they are read: one packet
pub packet_read : (i : ℕ) (x : Packet) (b : List ℕ) → RowStands i (packet_bytes x) b → packet_at i b ≡ x
unfolding packet_at
packet_read i x b s =
    rw (
      stands_get i (packet_bytes x) b s packet_kind (omega arith),
      stands_get i (packet_bytes x) b s packet_active (omega arith),
      stands_get i (packet_bytes x) b s packet_passive (omega arith),
      stands_get i (packet_bytes x) b s packet_slot (omega arith),
      stands_get i (packet_bytes x) b s packet_hub (omega arith),
      kind_code_lem x.kind,
    )

-- and the packets of a queue that has as many places
pub packets_read : (c i : ℕ) (xs : List Packet) (b : List ℕ) → length xs ≤ c → RowStands i (place_bytes c xs) b
    → packets_at c (length xs) i b ≡ xs
unfolding place_bytes packets_at
packets_read zero i [] b h s = refl
packets_read (suc c) i [] b h s = refl
packets_read zero i (x ∷ xs) b h s = absurd (omega arith)
packets_read (suc c) i (x ∷ xs) b h s =
    ap₂ ◌∷◌ (packet_read i x b (stands_left i (packet_bytes x) (place_bytes c xs) b s))
    (packets_read c (i + packet_width) xs b (omega arith)
    (stands_right i (i + packet_width) (packet_bytes x) (place_bytes c xs) b refl s))
