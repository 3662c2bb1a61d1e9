-- What joining and leaving a queue do to its row, byte by byte: plain stores, and a loop that closes up the places. And
-- what a start slot does that joins a pair's, or leaves them.
use Rattle.std.specs.Prelude.{List, ℕ, ◌+◌, ◌*◌, ◌-◌, get_or, set}
use Rattle.std.proofs.lemmas.List.Edits.{sets}
use Rattle.basis.specs.Fold.{up_to}
use Rattle.sets.specs.Sets.{single, either, less}
use Rattle.packets.specs.declared.Packet.{Packet}
use Rattle.bytes_layout.specs.Offsets.{packet_width, length_byte, first_place}
use Rattle.bytes_layout.specs.Places.{packet_bytes, no_packet}
use Rattle.bytes_layout.specs.Encode.{word_bytes}
use Rattle.bytes_layout.specs.Decode.{length_at, four_at}

-- the place of a number in the row at an offset
abbrev pub place_row : ℕ → ℕ → ℕ
place_row at n = at + first_place + packet_width * n

-- ---- a packet joins: its bytes behind the last packet's, and one more in the length byte
unfoldable pub push_at : ℕ → Packet → List ℕ → List ℕ
push_at at x b = set (sets b (place_row at (length_at at b)) (packet_bytes x)) (at + length_byte) (length_at at b + 1)

-- ---- the first packet leaves
-- the byte one place further on comes to i
abbrev pub move_byte : ℕ → List ℕ → List ℕ
move_byte i b = set b i (get_or b (i + packet_width) 0)

-- the five bytes of the next place come to the place at i
unfoldable pub move_place : ℕ → List ℕ → List ℕ
move_place i b = move_byte (i + 4) (move_byte (i + 3) (move_byte (i + 2) (move_byte (i + 1) (move_byte i b))))

-- of the places from i on, n take what the next one has, first to last
unfoldable pub close_up : ℕ → ℕ → List ℕ → List ℕ
close_up i n b = up_to (λ j. move_place (i + packet_width * j)) n b

-- the others close up, the last one's place is freed, and one less is in the length byte
unfoldable pub pop_at : ℕ → List ℕ → List ℕ
pop_at at b =
    set (sets (close_up (at + first_place) (length_at at b - 1) b) (place_row at (length_at at b - 1)) no_packet)
    (at + length_byte) (length_at at b - 1)

-- ---- a start slot joins a pair's, whose four bytes stand at an offset, and leaves them
unfoldable pub join_start : ℕ → ℕ → List ℕ → List ℕ
join_start at t b = sets b at (word_bytes (either (four_at at b) (single t)))

unfoldable pub leave_start : ℕ → ℕ → List ℕ → List ℕ
leave_start at t b = sets b at (word_bytes (less (four_at at b) (single t)))
