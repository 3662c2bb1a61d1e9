-- Joining and leaving a queue, and a pair's start slots, from what the stores make one after the other.
use mathlib.Core.Path.{◌≡◌, ap, ap₂, ◌∙◌}
use mathlib.Core.List.{List}
use Prim.Native.Nat.{ℕ, ◌+◌, ◌*◌, ◌-◌}
use lib.ListN.{set}
use lib.Seq.{sets}
use Rattle.sets.specs.Sets.{single, either, less}
use Rattle.packets.specs.declared.Packet.{Packet}
use Rattle.bytes_layout.specs.Places.{packet_bytes, no_packet}
use Rattle.bytes_layout.specs.Encode.{word_bytes}
use Rattle.bytes_layout.specs.Decode.{length_at, four_at}
use Rattle.bytes_layout.specs.Updates.{push_at, close_up, pop_at, join_start, leave_start}

module _ (b : List ℕ) (at k : ℕ) where
  -- k is the count as an index
  pub pushed : (x : Packet) (c : List ℕ) → k ≡ length_at at b → c ≡ sets b (at + 4 + 5 * k) (packet_bytes x)
      → set c (at + 3) (length_at at b + 1) ≡ push_at at x b
  unfolding push_at
  pushed x c e f = rw (f, e)

  pub popped : (c d : List ℕ) → k ≡ length_at at b - 1 → c ≡ close_up (at + 4) k b → d ≡ sets c (at + 4 + 5 * k)
      no_packet
      → set d (at + 3) (length_at at b - 1) ≡ pop_at at b
  unfolding pop_at
  popped c d e f g = rw (g, f, e)

-- w is the word that was read, k the slot as an index
module _ (b : List ℕ) (at t : ℕ) {w k v : ℕ} {c : List ℕ} where
  pub joined : w ≡ four_at at b → k ≡ t → v ≡ either w (single k) → c ≡ sets b at (word_bytes v)
      → c ≡ join_start at t b
  unfolding join_start
  joined e f g h =
      h ∙ ap (λ (x : ℕ). sets b at (word_bytes x)) (g ∙ ap₂ (λ (x y : ℕ). either x (single y)) e f)

  pub left : w ≡ four_at at b → k ≡ t → v ≡ less w (single k) → c ≡ sets b at (word_bytes v) → c ≡ leave_start at t b
  unfolding leave_start
  left e f g h =
      h ∙ ap (λ (x : ℕ). sets b at (word_bytes x)) (g ∙ ap₂ (λ (x y : ℕ). less x (single y)) e f)
