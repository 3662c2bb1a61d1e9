-- The state of a state's bytes is that state: each row is read where it stands, and outside the plan's places both are
-- blank.
use mathlib.Core.Path.{◌≡◌, refl, sym, ap, ap₂, ◌∙◌, fun_ext}
use mathlib.Core.Bool.{Bool, true, false}
use mathlib.Core.List.{List, [], ◌∷◌}
use Prim.Native.Nat.{ℕ, ◌+◌, ◌*◌, ◌/◌, ◌%◌, ◌≤◌, ◌<◌}
use native.Mathlib.Omega.{arith}
use lib.Dec.{ltb}
use borrow.Author.Tests.{ltb-true, lt-ltb}
use lib.ListN.{length}
use Rattle.basis.specs.Choice.{pick, not_both}
use Rattle.sets.specs.Sets.{has}
use Rattle.sets.specs.Laws.{has_those, those_below}
use Rattle.packets.specs.declared.Entry.{Entry}
use Rattle.packets.specs.declared.Wire.{Wire}
use Rattle.packets.specs.declared.Wire.TheVariants.{Empty, Full}
use Rattle.plan.specs.Head.{InRange}
use Rattle.plan.specs.Plan.{Plan, A}
use Rattle.plan_queues.specs.Queue.{Queue, Exists}
use Rattle.plan_queues.specs.Feeds.{Output}
use Rattle.rules.specs.State.{State, blank}
use Rattle.rules.specs.Valid.{Bounded, Drives}
use Rattle.bytes_layout.specs.Rows.{RowStands, stands_left, stands_right, stands_get, stands_byte}
use Rattle.bytes_layout.specs.Named.{exists_test, test_exists, exists_test_lem, drives_test, test_drives}
use Rattle.bytes_layout.specs.Named.{drives_test_lem}
use Rattle.bytes_layout.specs.Named.{is_entry, test_entry, entry_test_lem, is_connection, test_connection}
use Rattle.bytes_layout.specs.Named.{connection_test}
use Rattle.bytes_layout.specs.Offsets.{places, credit_byte, flag_byte, handled_byte, length_byte, wire_byte}
use Rattle.bytes_layout.specs.Offsets.{choice_byte}
use Rattle.bytes_layout.specs.Offsets.{first_place, wire_packet, slot_room, queue_row, output_row, allowance_row}
use Rattle.bytes_layout.specs.Offsets.{entry_row}
use Rattle.bytes_layout.specs.Offsets.{starts_row, turn_row}
use Rattle.bytes_layout.specs.Codes.{phase_code_lem, flag_code, flag_of, flag_code_lem, choice_code, choice_of}
use Rattle.bytes_layout.specs.Codes.{choice_code_lem}
use Rattle.bytes_layout.specs.Codes.{entry_from, entry_code_lem}
use Rattle.bytes_layout.specs.Places.{packet_bytes, place_bytes, packet_at, packet_read, packets_read}
use Rattle.bytes_layout.specs.Encode.{queue_bytes, wire_bytes, output_bytes, allowance_bytes, entry_bytes, word_bytes}
use Rattle.bytes_layout.specs.Encode.{starts_of, turn_bytes, encode, length_wire}
use Rattle.bytes_layout.proofs.Standing.{queue_stands, output_stands, allowance_stands, entry_stands, starts_stands}
use Rattle.bytes_layout.proofs.Standing.{turn_stands}
use Rattle.bytes_layout.specs.Decode.{credit_at, flag_at, mark_at, length_at, queue_in, wire_from, wire_at, choice_at}
use Rattle.bytes_layout.specs.Decode.{entry_at, four_at, decode, Small}

-- ---- one row is read where it stands
module _ (s : State) (b : List ℕ) (i : ℕ) where
  -- a queue's credit, flag, handled mark and packets
  pub credit_read : (q : Queue) → RowStands i (queue_bytes s q) b → credit_at i b ≡ s.flow.credit q
  unfolding queue_bytes
  credit_read q t = ap (λ (n : ℕ). record { 0 = n }) (stands_get i (queue_bytes s q) b t credit_byte (omega arith))

  pub flag_read : (q : Queue) → RowStands i (queue_bytes s q) b → flag_at i b ≡ s.flow.flag q
  unfolding queue_bytes
  flag_read q t = ap flag_of (stands_get i (queue_bytes s q) b t flag_byte (omega arith)) ∙ flag_code_lem
      (s.flow.flag q)

  pub handled_read : (q : Queue) → RowStands i (queue_bytes s q) b → mark_at i b ≡ s.lines.handled q
  unfolding queue_bytes
  handled_read q t =
      ap flag_of (stands_get i (queue_bytes s q) b t handled_byte (omega arith)) ∙ flag_code_lem (s.lines.handled q)

  pub queue_read : (q : Queue) → length (s.lines.queue q) ≤ places → RowStands i (queue_bytes s q) b
      → queue_in i b ≡ s.lines.queue q
  unfolding queue_bytes
  queue_read q h t =
      let n : length_at i b ≡ length (s.lines.queue q) = stands_get i (queue_bytes s q) b t length_byte (omega arith) in
      let front : List ℕ = (s.flow.credit q).0 ∷ flag_code (s.flow.flag q) ∷ flag_code (s.lines.handled q)
      ∷ length (s.lines.queue q) ∷ [] in
      rw n (packets_read places (i + first_place) (s.lines.queue q) b h
      (stands_right i (i + first_place) front (place_bytes places (s.lines.queue q)) b refl t))

  -- a wire; an output's wire and choice
  pub wire_read : (w : Wire) → RowStands i (wire_bytes w) b → wire_at i b ≡ w
  wire_read Empty t = ap (λ n. wire_from (flag_of n) (packet_at (i + wire_packet) b))
      (stands_get i (wire_bytes Empty) b t wire_byte (omega arith))
  wire_read (Full x) t =
      ap₂ (λ n y. wire_from (flag_of n) y) (stands_get i (wire_bytes (Full x)) b t wire_byte (omega arith))
      (packet_read (i + wire_packet) x b (stands_right i (i + wire_packet) (1 ∷ []) (packet_bytes x) b refl t))

  pub output_wire_read : (o : Output) → RowStands i (output_bytes s o) b → wire_at i b ≡ s.links.wire o
  unfolding output_bytes
  output_wire_read o t = wire_read (s.links.wire o)
      (stands_left i (wire_bytes (s.links.wire o)) (choice_code (s.links.choice o) ∷ []) b t)

  pub choice_read : (o : Output) → RowStands i (output_bytes s o) b → choice_at i b ≡ s.links.choice o
  unfolding output_bytes
  choice_read o t =
      let e : i + choice_byte ≡ i + length (wire_bytes (s.links.wire o)) = rw (length_wire (s.links.wire o)) in
      let k : RowStands (i + choice_byte) (choice_code (s.links.choice o) ∷ []) b =
      stands_right i (i + choice_byte) (wire_bytes (s.links.wire o)) (choice_code (s.links.choice o) ∷ []) b e t in
      ap choice_of (stands_byte (i + choice_byte) (choice_code (s.links.choice o) ∷ []) b k (omega arith))
      ∙ choice_code_lem (s.links.choice o)

  -- an entry
  pub entry_read : (x : Entry) → RowStands i (entry_bytes x) b → entry_at i b ≡ x
  entry_read x t = ap entry_from (stands_byte i (entry_bytes x) b t (omega arith)) ∙ entry_code_lem x

-- ---- a word of four bytes
pub word_read : (i w : ℕ) (b : List ℕ) → w < 4294967296 → RowStands i (word_bytes w) b → four_at i b ≡ w
unfolding four_at
word_read i w b l t =
    let x = stands_byte i (word_bytes w) b t (omega arith) in
    let y = stands_get i (word_bytes w) b t 1 (omega arith) in
    let z = stands_get i (word_bytes w) b t 2 (omega arith) in
    let v = stands_get i (word_bytes w) b t 3 (omega arith) in
    rw (x, y, z, v) sum
  where
    sum : w % 256 + 256 * (w / 256 % 256) + 65536 * (w / 65536 % 256) + 16777216 * (w / 16777216 % 256) ≡ w
    sum =
        let d : w / 65536 ≡ w / 256 / 256 = omega arith in
        let c : w / 16777216 ≡ w / 65536 / 256 = omega arith in
        let m : w / 16777216 % 256 ≡ w / 16777216 = omega arith in
        let n : w / 65536 % 256 + 256 * (w / 16777216) ≡ w / 65536 = omega arith in
        let o : w / 256 % 256 + 256 * (w / 65536) ≡ w / 256 = omega arith in
        let p : w % 256 + 256 * (w / 256) ≡ w = omega arith in
        omega arith

-- the start slots of a pair, and one of them
pub starts_read : (s : State) (b : List ℕ) (i a p : ℕ) → RowStands i (word_bytes (starts_of s a p)) b
    → four_at i b ≡ starts_of s a p
starts_read s b i a p t = word_read i (starts_of s a p) b (those_below slot_room (s.connections a p)) t

-- ---- the whole
-- read where the plan has it, else the default
kept : {X : Type 0} (t : Bool) (x d v : X) → (t ≡ true → x ≡ v) → (t ≡ false → v ≡ d) → pick t x d ≡ v
kept true x d v f g = f refl
kept false x d v f g = sym (g refl)

-- what makes a test true does not hold where it is false
unless : {X : Type 0} (t : Bool) → t ≡ false → (X → t ≡ true) → X → ⊥
unless t e f x = not_both (f x) e

module _ (pl : Plan) (s : State) (rest : List ℕ) (range : InRange pl.head) (out : Bounded pl s)
    (small : Small pl s) where
  -- a part of a queue's row, and of an output's
  of_queue : {X : Type 0} (q : Queue) (x d v : X)
      → (RowStands (queue_row pl q) (queue_bytes s q) (encode pl s rest) → x ≡ v) → ((Exists pl q → ⊥) → v ≡ d)
      → pick (exists_test pl q) x d ≡ v
  of_queue q x d v f g =
      kept (exists_test pl q) x d v (λ e. f (queue_stands pl s rest q (test_exists pl q e)))
      (λ e. g (unless (exists_test pl q) e (exists_test_lem pl q)))

  of_output : {X : Type 0} (o : Output) (x d v : X)
      → (RowStands (output_row pl o) (output_bytes s o) (encode pl s rest) → x ≡ v) → ((Drives pl o → ⊥) → v ≡ d)
      → pick (drives_test pl o) x d ≡ v
  of_output o x d v f g =
      kept (drives_test pl o) x d v (λ e. f (output_stands pl s rest o (test_drives pl o e)))
      (λ e. g (unless (drives_test pl o) e (drives_test_lem pl o)))

  same_entry : (r o t : ℕ) → (decode pl (encode pl s rest)).table r o t ≡ s.table r o t
  unfolding decode
  same_entry r o t =
      kept (is_entry pl r o t) _ ((blank pl).table r o t) (s.table r o t)
      (λ e. let h = test_entry pl r o t e in let l = range.slots.1 in
      entry_read s (encode pl s rest) (entry_row pl r o t) (s.table r o t)
      (entry_stands pl s rest r o t h.0 h.1 (omega arith)))
      (λ e. out.table r o t (unless (is_entry pl r o t) e (entry_test_lem pl r o t)))

  same_allowance : (a : ℕ) → (decode pl (encode pl s rest)).flow.allowance a ≡ s.flow.allowance a
  unfolding decode
  same_allowance a =
      kept (ltb a (A pl)) _ ((blank pl).flow.allowance a) (s.flow.allowance a)
      (λ e. stands_byte (allowance_row pl a) (allowance_bytes s a) (encode pl s rest)
      (allowance_stands pl s rest a (ltb-true a (A pl) e)) (omega arith))
      (λ e. out.allowance a (unless (ltb a (A pl)) e (lt-ltb a (A pl))))

  same_connection_lem : (a p t : ℕ) → (decode pl (encode pl s rest)).connections a p t ≡ s.connections a p t
  unfolding decode
  same_connection_lem a p t =
      kept (is_connection pl a p t) _ ((blank pl).connections a p t) (s.connections a p t)
      (λ e. let h = test_connection pl a p t e in let l = range.slots.1 in let k = range.passives.1 in
      ap (λ (w : ℕ). has w t)
      (starts_read s (encode pl s rest) (starts_row pl a p) a p (starts_stands pl s rest a p h.0 (omega arith)))
      ∙ has_those slot_room (s.connections a p) t (omega arith))
      (λ e. out.connection a p t (unless (is_connection pl a p t) e (connection_test pl a p t)))

  same_last_sender : (o : Output) → (decode pl (encode pl s rest)).last_sender o ≡ s.last_sender o
  unfolding decode
  same_last_sender o =
      kept (drives_test pl o) _ ((blank pl).last_sender o) (s.last_sender o)
      (λ e. stands_byte (turn_row pl o) (turn_bytes s o) (encode pl s rest)
      (turn_stands pl s rest o (test_drives pl o e)) (omega arith))
      (λ e. out.last_sender o (unless (drives_test pl o) e (drives_test_lem pl o)))

  -- the state of a state's bytes is that state
  pub decode_encode : decode pl (encode pl s rest) ≡ s
  unfolding decode encode
  decode_encode =
      let b : List ℕ = encode pl s rest in
      let qs : (decode pl b).lines.queue ≡ s.lines.queue =
      fun_ext (λ q. kept (exists_test pl q) _ ((blank pl).lines.queue q) (s.lines.queue q)
      (λ e. let h = test_exists pl q e in
      queue_read s b (queue_row pl q) q (small.few q h) (queue_stands pl s rest q h))
      (λ e. out.queue q (unless (exists_test pl q) e (exists_test_lem pl q)))) in
      let ws : (decode pl b).links.wire ≡ s.links.wire =
      fun_ext (λ o. of_output o _ _ (s.links.wire o) (output_wire_read s b (output_row pl o) o) (out.wire o)) in
      let cs : (decode pl b).flow.credit ≡ s.flow.credit =
      fun_ext (λ q. of_queue q _ _ (s.flow.credit q) (credit_read s b (queue_row pl q) q) (out.credit q)) in
      let fs : (decode pl b).flow.flag ≡ s.flow.flag =
      fun_ext (λ q. of_queue q _ _ (s.flow.flag q) (flag_read s b (queue_row pl q) q) (out.flag q)) in
      let hs : (decode pl b).lines.handled ≡ s.lines.handled =
      fun_ext (λ q. of_queue q _ _ (s.lines.handled q) (handled_read s b (queue_row pl q) q) (out.handled q)) in
      let ps : (decode pl b).links.choice ≡ s.links.choice =
      fun_ext (λ o. of_output o _ _ (s.links.choice o) (choice_read s b (output_row pl o) o) (out.choice o)) in
      let ts : (decode pl b).table ≡ s.table = fun_ext (λ r. fun_ext (λ o. fun_ext (λ t. same_entry r o t))) in
      let ac : (decode pl b).connections ≡ s.connections =
      fun_ext (λ a. fun_ext (λ p. fun_ext (λ t. same_connection_lem a p t))) in
      let ls : (decode pl b).last_sender ≡ s.last_sender = fun_ext (λ o. same_last_sender o) in
      let al : (decode pl b).flow.allowance ≡ s.flow.allowance = fun_ext (λ a. same_allowance a) in
      let ph : (decode pl b).clock.phase ≡ s.clock.phase = phase_code_lem s.clock.phase in
      λ i. record {
        clock = record { phase = ph i; slot = s.clock.slot };
        lines = record { queue = qs i; handled = hs i };
        flow = record { credit = cs i; flag = fs i; allowance = al i };
        links = record { wire = ws i; choice = ps i };
        table = ts i;
        connections = ac i;
        last_sender = ls i;
      }
