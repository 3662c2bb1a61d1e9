-- The bytes of a state have the forms of their rows.
use mathlib.Core.Path.{◌≡◌, refl, ap, ◌∙◌}
use mathlib.Core.Logic.{◌⊎◌, inl, inr}
use mathlib.Core.Bool.{true, false, ◌||◌}
use mathlib.Core.List.{List, [], ◌∷◌}
use Prim.Native.Nat.{ℕ, zero, suc, ◌+◌, ◌/◌, ◌%◌, ◌≤◌, ◌<◌}
use native.Mathlib.Omega.{arith}
use lib.Dec.{eqb, ltb, leb}
use lib.ListN.{length, get_or, length-append}
use borrow.Author.Tests.{lt-ltb, le-leb, eq-eqb}
use Rattle.basis.specs.Choice.{test, not_both, also_of}
use Rattle.basis.specs.Bounded.{all_of, lt_or_ge, or_right}
use Rattle.sets.specs.Sets.{has}
use Rattle.sets.specs.Laws.{has_those}
use Rattle.packets.specs.declared.Packet.{Packet}
use Rattle.packets.specs.declared.Wire.{Wire}
use Rattle.packets.specs.declared.Wire.TheVariants.{Empty, Full}
use Rattle.plan.specs.Plan.{Plan, R, S}
use Rattle.plan_queues.specs.Queue.{Queue}
use Rattle.plan_queues.specs.Feeds.{Output}
use Rattle.rules.specs.State.{State, blank}
use Rattle.rules.specs.Valid.{Bounded}
use Rattle.bytes_layout.specs.Rows.{RowStands, stands_left, stands_right, stands_get, stands_byte}
use Rattle.bytes_layout.specs.Named.{is_connection, connection_test}
use Rattle.bytes_layout.specs.Offsets.{phase_byte, places, packet_kind, packet_width, flag_byte, handled_byte}
use Rattle.bytes_layout.specs.Offsets.{length_byte}
use Rattle.bytes_layout.specs.Offsets.{first_place, wire_byte, wire_packet, slot_room, size, entry_row, passive_room}
use Rattle.bytes_layout.specs.Offsets.{pairs}
use Rattle.bytes_layout.specs.Codes.{flag_code, choice_code, entry_code, phase_small, kind_small, flag_small}
use Rattle.bytes_layout.specs.Places.{packet_bytes, no_packet, place_bytes}
use Rattle.bytes_layout.specs.Encode.{queue_bytes, wire_bytes, output_bytes, entry_bytes, word_bytes, starts_of, encode}
use Rattle.bytes_layout.specs.Encode.{encode_append, length_encode}
use Rattle.bytes_layout.specs.Decode.{four_at, Small}
use Rattle.bytes_layout.specs.Canonical.{canonical}
use Rattle.bytes_layout.proofs.Standing.{queue_stands, output_stands, entry_stands, starts_stands}
use Rattle.bytes_layout.proofs.Readings.{starts_at}
use Rattle.bytes_layout.proofs.StateBytes.{states}
use Rattle.check_rule.specs.Forms.{zeros, places_form, queue_form, output_form, side_form, pair_row, word_form}
use Rattle.check_rule.specs.Forms.{start_form, starts_form}
use Rattle.check_rule.proofs.Forms.{Formed}

-- ---- places
nothing_get : (k : ℕ) → get_or no_packet k 0 ≡ 0
nothing_get zero = refl
nothing_get (suc zero) = refl
nothing_get (suc (suc zero)) = refl
nothing_get (suc (suc (suc zero))) = refl
nothing_get (suc (suc (suc (suc zero)))) = refl
nothing_get (suc (suc (suc (suc (suc n))))) = refl

nothing_form : (i : ℕ) (b : List ℕ) → RowStands i no_packet b → zeros i packet_width b ≡ true
unfolding zeros
nothing_form i b s =
    all_of packet_width _ (λ k h. eq-eqb (get_or b (i + k) 0) 0 (stands_get i no_packet b s k h ∙ nothing_get k))

packet_form : (i : ℕ) (x : Packet) (b : List ℕ) → RowStands i (packet_bytes x) b
    → leb (get_or b (i + packet_kind) 0) 3 ≡ true
packet_form i x b s =
    rw (stands_get i (packet_bytes x) b s packet_kind (omega arith)) (le-leb _ 3 (kind_small x.kind))

places_form_lem : (c i : ℕ) (xs : List Packet) (b : List ℕ) → RowStands i (place_bytes c xs) b
    → places_form c (length xs) i b ≡ true
unfolding places_form place_bytes
places_form_lem zero i xs b s = refl
places_form_lem (suc c) i [] b s =
    also_of (nothing_form i b (stands_left i no_packet (place_bytes c []) b s))
    (places_form_lem c (i + packet_width) [] b
    (stands_right i (i + packet_width) no_packet (place_bytes c []) b refl s))
places_form_lem (suc c) i (x ∷ xs) b s =
    also_of (packet_form i x b (stands_left i (packet_bytes x) (place_bytes c xs) b s))
    (places_form_lem c (i + packet_width) xs b
    (stands_right i (i + packet_width) (packet_bytes x) (place_bytes c xs) b refl s))

-- ---- a queue's row
queue_form_lem : (s : State) (q : Queue) (i : ℕ) (b : List ℕ) → length (s.lines.queue q) ≤ places
    → RowStands i (queue_bytes s q) b → queue_form i b ≡ true
unfolding queue_form queue_bytes
queue_form_lem s q i b h t =
    let frame : List ℕ = (s.flow.credit q).0 ∷ flag_code (s.flow.flag q) ∷ flag_code (s.lines.handled q)
    ∷ length (s.lines.queue q) ∷ [] in
    rw (
      stands_get i (queue_bytes s q) b t flag_byte (omega arith),
      stands_get i (queue_bytes s q) b t handled_byte (omega arith),
      stands_get i (queue_bytes s q) b t length_byte (omega arith),
    )
    (also_of (le-leb _ 1 (flag_small (s.flow.flag q)))
    (also_of (le-leb _ 1 (flag_small (s.lines.handled q)))
    (also_of (le-leb _ places h)
    (places_form_lem places (i + first_place) (s.lines.queue q) b
    (stands_right i (i + first_place) frame (place_bytes places (s.lines.queue q)) b refl t)))))

-- ---- an output's row
wire_form : (w : Wire) (i : ℕ) (b : List ℕ) → RowStands i (wire_bytes w) b → output_form i b ≡ true
unfolding output_form
wire_form Empty i b s =
    rw (stands_get i (wire_bytes Empty) b s wire_byte (omega arith))
    (nothing_form (i + wire_packet) b (stands_right i (i + wire_packet) (0 ∷ []) no_packet b refl s))
wire_form (Full x) i b s =
    rw (stands_get i (wire_bytes (Full x)) b s wire_byte (omega arith))
    (packet_form (i + wire_packet) x b (stands_right i (i + wire_packet) (1 ∷ []) (packet_bytes x) b refl s))

output_form_lem : (s : State) (o : Output) (i : ℕ) (b : List ℕ) → RowStands i (output_bytes s o) b → output_form i b ≡
    true
unfolding output_bytes
output_form_lem s o i b t = wire_form (s.links.wire o) i b
    (stands_left i (wire_bytes (s.links.wire o)) (choice_code (s.links.choice o) ∷ []) b t)

-- ---- a word's bytes
word_form_lem : (i w : ℕ) (b : List ℕ) → RowStands i (word_bytes w) b → word_form i b ≡ true
unfolding word_form
word_form_lem i w b s = all_of 4 (λ k. leb (get_or b (i + k) 0) 255) (λ k h. le-leb (get_or b (i + k) 0) 255 (at k h))
  where
    small : (k : ℕ) → k < 4 → get_or (word_bytes w) k 0 ≤ 255
    small zero h = omega arith
    small (suc zero) h = omega arith
    small (suc (suc zero)) h = omega arith
    small (suc (suc (suc zero))) h = omega arith
    small (suc (suc (suc (suc k)))) h = absurd (omega arith)

    at : (k : ℕ) → k < 4 → get_or b (i + k) 0 ≤ 255
    at k h = rw (stands_get i (word_bytes w) b s k h) (small k h)

-- ---- the whole
module _ (pl : Plan) (s : State) (rest : List ℕ) (out : Bounded pl s) (small : Small pl s) where
  phase_form : get_or (encode pl s rest) phase_byte 0 ≤ 2
  unfolding encode
  phase_form = phase_small s.clock.phase

  long_form : size pl ≤ length (encode pl s rest)
  long_form = rw (encode_append pl s rest) (omega (arith, length-append (encode pl s []) rest, length_encode pl s))

  -- an entry past the plan's slots is free, and its byte zero
  past_form : (r o t : ℕ) → r < R pl → o < 4 → t < slot_room
      → (ltb t (S pl) || eqb (get_or (encode pl s rest) (entry_row pl r o t) 0) 0) ≡ true
  unfolding blank
  past_form r o t hr ho ht = by (lt_or_ge t (S pl))
    where
      by : (t < S pl) ⊎ (S pl ≤ t) → (ltb t (S pl) || eqb (get_or (encode pl s rest) (entry_row pl r o t) 0) 0) ≡ true
      by (inl l) = rw (lt-ltb t (S pl) l)
      by (inr g) =
          let e : get_or (encode pl s rest) (entry_row pl r o t) 0 ≡ 0 =
          stands_byte (entry_row pl r o t) (entry_bytes (s.table r o t)) (encode pl s rest)
          (entry_stands pl s rest r o t hr ho ht) (omega arith)
          ∙ ap entry_code (out.table r o t (λ h. let l = h.2 in omega arith)) in
          rw (eq-eqb _ 0 e) (or_right (ltb t (S pl)))

  side_form_lem : (r o : ℕ) → r < R pl → o < 4 → side_form pl r o (encode pl s rest) ≡ true
  unfolding side_form
  side_form_lem r o hr ho =
      all_of slot_room _
      (λ t h. also_of
      (eq-eqb _ 0 (stands_get (entry_row pl r o t) (entry_bytes (s.table r o t)) (encode pl s rest)
      (entry_stands pl s rest r o t hr ho h) 1 (omega arith)))
      (past_form r o t hr ho h))

  -- a connection that is not the plan's is not accepted, and its bit not set
  start_form_lem : (n t : ℕ) → n < pairs pl → t < slot_room → start_form pl (encode pl s rest) n t ≡ true
  unfolding blank
  start_form_lem n t hn ht = by (test (is_connection pl (n / passive_room) (n % passive_room) t))
    where
      a : ℕ
      a = n / passive_room

      p : ℕ
      p = n % passive_room

      read : has (four_at (pair_row pl n) (encode pl s rest)) t ≡ s.connections a p t
      read =
          ap (λ (w : ℕ). has w t) (starts_at pl s rest (encode pl s rest) refl a p (omega arith) (omega arith))
          ∙ has_those slot_room (s.connections a p) t ht

      by : (is_connection pl a p t ≡ true) ⊎ (is_connection pl a p t ≡ false)
          → start_form pl (encode pl s rest) n t ≡ true
      by (inl e) = rw e
      by (inr e) = rw (e, read, out.connection a p t (λ h. not_both (connection_test pl a p t h) e))

  starts_form_lem : (n : ℕ) → n < pairs pl → starts_form pl (encode pl s rest) n ≡ true
  unfolding starts_form
  starts_form_lem n h =
      also_of
      (word_form_lem (pair_row pl n) (starts_of s (n / passive_room) (n % passive_room)) (encode pl s rest)
      (starts_stands pl s rest (n / passive_room) (n % passive_room) (omega arith) (omega arith)))
      (all_of slot_room (start_form pl (encode pl s rest) n) (λ t l. start_form_lem n t h l))

  encode_formed : Formed pl (encode pl s rest)
  encode_formed =
      record {
        long = long_form;
        phase = phase_form;
        queue = λ q h. queue_form_lem s q _ _ (small.few q h) (queue_stands pl s rest q h);
        output = λ o h. output_form_lem s o _ _ (output_stands pl s rest o h);
        side = side_form_lem;
        starts = starts_form_lem;
      }

-- so bytes that are a state's have them
pub canonical_formed : (pl : Plan) (b : List ℕ) → canonical pl b ≡ true → Formed pl b
canonical_formed pl = states pl (Formed pl) (encode_formed pl)
