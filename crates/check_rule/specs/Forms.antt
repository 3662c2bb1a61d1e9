-- The one form in which the layout writes a row: what of the bytes themselves must hold so that they are some state's.
use Rattle.std.specs.Prelude.{Bool, true, not, ◌||◌, List, ℕ, zero, suc, ◌+◌, ◌/◌, ◌%◌, eqb, ltb, leb, get_or}
use Rattle.basis.specs.Choice.{pick, also}
use Rattle.basis.specs.Bounded.{all_below}
use Rattle.sets.specs.Sets.{has}
use Rattle.plan.specs.Plan.{Plan, S}
use Rattle.bytes_layout.specs.Named.{is_connection}
use Rattle.bytes_layout.specs.Offsets.{phase_byte, slot_byte, places, packet_kind, packet_width, flag_byte}
use Rattle.bytes_layout.specs.Offsets.{handled_byte}
use Rattle.bytes_layout.specs.Offsets.{length_byte, first_place, wire_byte, wire_packet, slot_room, entry_row}
use Rattle.bytes_layout.specs.Offsets.{passive_room, starts_width, starts_row}
use Rattle.bytes_layout.specs.Decode.{four_at}

-- n zero bytes from i on
unfoldable pub zeros : ℕ → ℕ → List ℕ → Bool
zeros i n b = all_below n (λ k. eqb (get_or b (i + k) 0) 0)

-- phase and slot: three phases, and the plan's slots
unfoldable pub header_form : Plan → List ℕ → Bool
header_form pl b = also (leb (get_or b phase_byte 0) 2) (ltb (get_or b slot_byte 0) (S pl))

-- c places of which n have packets: each of one of four kinds, and zero bytes behind the last
unfoldable pub places_form : ℕ → ℕ → ℕ → List ℕ → Bool
places_form zero n i b = true
places_form (suc c) zero i b = also (zeros i packet_width b) (places_form c zero (i + packet_width) b)
places_form (suc c) (suc n) i b =
    also (leb (get_or b (i + packet_kind) 0) 3) (places_form c n (i + packet_width) b)

-- a queue's row
unfoldable pub queue_form : ℕ → List ℕ → Bool
queue_form i b =
    also (leb (get_or b (i + flag_byte) 0) 1)
    (also (leb (get_or b (i + handled_byte) 0) 1)
    (also (leb (get_or b (i + length_byte) 0) places)
    (places_form places (get_or b (i + length_byte) 0) (i + first_place) b)))

-- an output's row: a full wire has a packet of one of four kinds, an empty one zero bytes
unfoldable pub output_form : ℕ → List ℕ → Bool
output_form i b =
    also (leb (get_or b (i + wire_byte) 0) 1)
    (pick (eqb (get_or b (i + wire_byte) 0) 1) (leb (get_or b (i + wire_packet + packet_kind) 0) 3)
    (zeros (i + wire_packet) packet_width b))

-- a side's entries: each entry's second byte is zero, and both are past the plan's slots
unfoldable pub side_form : Plan → ℕ → ℕ → List ℕ → Bool
side_form pl r o b =
    all_below slot_room
    (λ t. also (eqb (get_or b (entry_row pl r o t + 1) 0) 0) (ltb t (S pl) || eqb (get_or b (entry_row pl r o t) 0) 0))

-- ---- the start slots of the pair of a number
-- where they stand
abbrev pub pair_row : Plan → ℕ → ℕ
pair_row pl n = starts_row pl (n / passive_room) (n % passive_room)

-- a word is four bytes
unfoldable pub word_form : ℕ → List ℕ → Bool
word_form i b = all_below starts_width (λ k. leb (get_or b (i + k) 0) 255)

-- the bit of a start slot is set only where the pair and the slot are the plan's
abbrev pub start_form : Plan → List ℕ → ℕ → ℕ → Bool
start_form pl b n t =
    is_connection pl (n / passive_room) (n % passive_room) t || not (has (four_at (pair_row pl n) b) t)

unfoldable pub starts_form : Plan → List ℕ → ℕ → Bool
starts_form pl b n = also (word_form (pair_row pl n) b) (all_below slot_room (start_form pl b n))
