-- What is read at each row of a state's bytes; how many bytes there are; and that every row lies inside.
use mathlib.Core.Path.{◌≡◌, refl, ap, ◌∙◌, subst}
use mathlib.Core.List.{List, [], ◌∷◌, ◌++◌}
use Prim.Native.Nat.{ℕ, ◌+◌, ◌<◌, ◌≤◌}
use native.Mathlib.Omega.{arith}
use lib.ListN.{length, get_or, length-append}
use Rattle.sets.specs.Sets.{has}
use Rattle.sets.specs.Laws.{has_those}
use Rattle.packets.specs.declared.Packet.{Packet}
use Rattle.plan.specs.Plan.{Plan, A, R}
use Rattle.plan_queues.specs.Queue.{Queue, Exists}
use Rattle.plan_queues.specs.Feeds.{Output}
use Rattle.plan_journeys.proofs.Numbers.{number_below}
use Rattle.rules.specs.State.{State}
use Rattle.rules.specs.Valid.{Drives}
use Rattle.rules.proofs.OutNumbers.{output_below}
use Rattle.bytes_layout.specs.Rows.{RowStands, stands_left, stands_right, stands_get, stands_byte}
use Rattle.bytes_layout.specs.Offsets.{phase_byte, slot_byte, length_byte, first_place, slot_room, queue_width}
use Rattle.bytes_layout.specs.Offsets.{output_width, passive_room, queue_row, output_row, allowance_row, entry_row}
use Rattle.bytes_layout.specs.Offsets.{starts_row, turn_row, size}
use Rattle.bytes_layout.specs.Codes.{phase_of, phase_code_lem, flag_code}
use Rattle.bytes_layout.specs.Places.{packet_bytes, place_bytes, packet_at, packet_read}
use Rattle.bytes_layout.specs.Encode.{queue_bytes, allowance_bytes, starts_of, turn_bytes, encode, encode_append}
use Rattle.bytes_layout.specs.Encode.{length_encode}
use Rattle.bytes_layout.specs.Decode.{credit_at, flag_at, mark_at, length_at, wire_at, choice_at, entry_at, four_at}
use Rattle.bytes_layout.proofs.Standing.{queue_stands, output_stands, allowance_stands, entry_stands, starts_stands}
use Rattle.bytes_layout.proofs.Standing.{turn_stands}
use Rattle.bytes_layout.proofs.Round.{credit_read, flag_read, handled_read, output_wire_read, choice_read, entry_read}
use Rattle.bytes_layout.proofs.Round.{starts_read}
use Rattle.bytes_layout.proofs.Lines.{row_of}

-- ---- how many bytes
pub length_bytes : (pl : Plan) (s : State) (rest : List ℕ) → length (encode pl s rest) ≡ size pl + length rest
length_bytes pl s rest = rw (encode_append pl s rest, length-append (encode pl s []) rest, length_encode pl s)

-- ---- every row lies inside
module _ (pl : Plan) where
  pub queue_inside : (q : Queue) → Exists pl q → queue_row pl q + queue_width ≤ size pl
  unfolding queue_row size
  queue_inside q h = let l = number_below pl q h in omega arith

  pub output_inside : (o : Output) → Drives pl o → output_row pl o + output_width ≤ size pl
  unfolding output_row size
  output_inside o h = let l = output_below pl o h in omega arith

  pub allowance_inside : (a : ℕ) → a < A pl → allowance_row pl a < size pl
  unfolding allowance_row size
  allowance_inside a h = omega arith

  pub entry_inside : (r o t : ℕ) → r < R pl → o < 4 → t < slot_room → entry_row pl r o t + 2 ≤ size pl
  unfolding entry_row size
  entry_inside r o t hr ho ht = omega arith

  pub starts_inside : (a p : ℕ) → a < A pl → p < passive_room → starts_row pl a p + 4 ≤ size pl
  unfolding starts_row size
  starts_inside a p ha hp = omega arith

  pub turn_inside : (o : Output) → Drives pl o → turn_row pl o < size pl
  unfolding turn_row size
  turn_inside o h = let l = output_below pl o h in omega arith

-- ---- what is read of the bytes of a state
module _ (pl : Plan) (s : State) (rest b : List ℕ) (e : b ≡ encode pl s rest) where
  pub phase_at : phase_of (get_or b phase_byte 0) ≡ s.clock.phase
  unfolding encode
  phase_at = ap (λ x. phase_of (get_or x phase_byte 0)) e ∙ phase_code_lem s.clock.phase

  pub slot_at : get_or b slot_byte 0 ≡ s.clock.slot.0
  unfolding encode
  slot_at = ap (λ x. get_or x slot_byte 0) e

  module _ (q : Queue) (h : Exists pl q) where
    stands : RowStands (queue_row pl q) (queue_bytes s q) b
    stands = rw e (queue_stands pl s rest q h)

    pub credit_at_lem : credit_at (queue_row pl q) b ≡ s.flow.credit q
    credit_at_lem = credit_read s b (queue_row pl q) q stands

    pub flag_at_lem : flag_at (queue_row pl q) b ≡ s.flow.flag q
    flag_at_lem = flag_read s b (queue_row pl q) q stands

    pub mark_at_lem : mark_at (queue_row pl q) b ≡ s.lines.handled q
    mark_at_lem = handled_read s b (queue_row pl q) q stands

    pub length_at_lem : length_at (queue_row pl q) b ≡ length (s.lines.queue q)
    unfolding queue_bytes
    length_at_lem = stands_get (queue_row pl q) (queue_bytes s q) b stands length_byte (omega arith)

    -- the first packet
    pub head_at : (x : Packet) (xs : List Packet) → s.lines.queue q ≡ x ∷ xs
        → packet_at (queue_row pl q + first_place) b ≡ x
    unfolding queue_bytes place_bytes
    head_at x xs k =
        let front : List ℕ = (s.flow.credit q).0 ∷ flag_code (s.flow.flag q) ∷ flag_code (s.lines.handled q)
        ∷ length (x ∷ xs) ∷ [] in
        let row : RowStands (queue_row pl q) (front ++ place_bytes 7 (x ∷ xs)) b =
        subst (λ (l : List Packet). RowStands (queue_row pl q)
        (row_of (s.flow.credit q) (s.flow.flag q) (s.lines.handled q) l) b) k stands in
        packet_read (queue_row pl q + first_place) x b
        (stands_left (queue_row pl q + first_place) (packet_bytes x) (place_bytes 6 xs) b
        (stands_right (queue_row pl q) (queue_row pl q + first_place) front (place_bytes 7 (x ∷ xs)) b refl row))

  module _ (o : Output) (h : Drives pl o) where
    pub wire_at_lem : wire_at (output_row pl o) b ≡ s.links.wire o
    wire_at_lem = output_wire_read s b (output_row pl o) o (rw e (output_stands pl s rest o h))

    pub choice_at_lem : choice_at (output_row pl o) b ≡ s.links.choice o
    choice_at_lem = choice_read s b (output_row pl o) o (rw e (output_stands pl s rest o h))

    pub last_sender_at : get_or b (turn_row pl o) 0 ≡ s.last_sender o
    last_sender_at =
        stands_byte (turn_row pl o) (turn_bytes s o) b (rw e (turn_stands pl s rest o h)) (omega arith)

  pub allowance_at : (a : ℕ) → a < A pl → get_or b (allowance_row pl a) 0 ≡ s.flow.allowance a
  allowance_at a h =
      stands_byte (allowance_row pl a) (allowance_bytes s a) b (rw e (allowance_stands pl s rest a h)) (omega arith)

  pub entry_at_lem : (r o t : ℕ) → r < R pl → o < 4 → t < slot_room → entry_at (entry_row pl r o t) b ≡ s.table r o t
  entry_at_lem r o t hr ho ht =
      entry_read s b (entry_row pl r o t) (s.table r o t) (rw e (entry_stands pl s rest r o t hr ho ht))

  pub starts_at : (a p : ℕ) → a < A pl → p < passive_room → four_at (starts_row pl a p) b ≡ starts_of s a p
  starts_at a p ha hp = starts_read s b (starts_row pl a p) a p (rw e (starts_stands pl s rest a p ha hp))

  -- and of one start slot
  pub connection_at : (a p t : ℕ) → a < A pl → p < passive_room → t < slot_room
      → has (four_at (starts_row pl a p) b) t ≡ s.connections a p t
  connection_at a p t ha hp ht =
      ap (λ (w : ℕ). has w t) (starts_at a p ha hp) ∙ has_those slot_room (s.connections a p) t ht
