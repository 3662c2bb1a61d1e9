-- Every byte of a valid state is a byte: below 256.
use mathlib.Core.Path.{◌≡◌, refl, sym, ◌∙◌}
use mathlib.Core.Logic.{◌⊎◌, inl, inr}
use mathlib.Core.Bool.{Bool, true, false}
use mathlib.Core.List.{List, [], ◌∷◌, ◌++◌}
use Prim.Native.Nat.{ℕ, zero, suc, ◌+◌, ◌/◌, ◌%◌, ◌≤◌, ◌<◌}
use native.Mathlib.Omega.{arith}
use lib.ListN.{length, get_or}
use Rattle.basis.specs.Choice.{test}
use Rattle.basis.specs.Among.{In}
use Rattle.basis.specs.Bounded.{lt_or_ge}
use Rattle.packets.specs.declared.Packet.{Packet}
use Rattle.packets.specs.declared.Wire.{Wire}
use Rattle.packets.specs.declared.Wire.TheVariants.{Empty, Full}
use Rattle.packets.specs.declared.Entry.{Entry}
use Rattle.packets.specs.declared.Entry.TheVariants.{Free, Booked}
use Rattle.plan.specs.Head.{InRange}
use Rattle.plan.specs.Plan.{Plan, R, A, S}
use Rattle.plan_queues.specs.Queue.{Queue, Exists, queues, queue_at}
use Rattle.plan_queues.specs.Feeds.{Output, of_active, of_passive, of_side, to_unit, from_unit}
use Rattle.rules.specs.Outputs.{senders, outputs, output_at}
use Rattle.rules.specs.State.{State, Choice, nobody, sender, blank, start}
use Rattle.rules.specs.Valid.{PacketOk, Lined, Drives, fed, Valid, Bounded}
use Rattle.rules.proofs.Numbers.{rank_below, exists_at}
use Rattle.rules.proofs.OutNumbers.{drives_at}
use Rattle.bytes_layout.specs.Rows.{rows}
use Rattle.bytes_layout.proofs.Numbering.{entry_named}
use Rattle.bytes_layout.specs.Offsets.{places, entries, router_entries, slot_room, pairs, passive_room}
use Rattle.bytes_layout.specs.Codes.{phase_small, kind_small, flag_small, choice_code}
use Rattle.bytes_layout.specs.Places.{packet_bytes, no_packet, place_bytes}
use Rattle.bytes_layout.specs.Encode.{queue_bytes, wire_bytes, output_bytes, allowance_bytes, entry_bytes, queue_part}
use Rattle.bytes_layout.specs.Encode.{output_part, allowance_part, table_part, word_bytes, starts_of, connection_part}
use Rattle.bytes_layout.specs.Encode.{turn_bytes, turn_part, encode}
use Rattle.bytes_layout.specs.Decode.{capacity_most}

-- all elements of a list are bytes
abbrev pub Bytes : List ℕ → Type 0
Bytes [] = record {}
Bytes (x ∷ b) = (x < 256) × Bytes b

-- so each that is read is
pub bytes_get : (b : List ℕ) (i : ℕ) → Bytes b → get_or b i 0 < 256
bytes_get [] i h = omega arith
bytes_get (x ∷ b) zero (h, k) = h
bytes_get (x ∷ b) (suc i) (h, k) = bytes_get b i k

-- two lists of bytes, one behind the other
pub bytes_append : (x y : List ℕ) → Bytes x → Bytes y → Bytes (x ++ y)
bytes_append [] y h k = k
bytes_append (a ∷ x) y (h, l) k = (h, bytes_append x y l k)

-- rows of bytes
pub bytes_span : (i n : ℕ) (g : ℕ → List ℕ) → ((j : ℕ) → i ≤ j → j < i + n → Bytes (g j)) → Bytes (rows i n g)
unfolding rows
bytes_span i zero g h = record {}
bytes_span i (suc n) g h = bytes_append (g i) (rows (suc i) n g) (h i (omega arith) (omega arith))
    (bytes_span (suc i) n g (λ j a b. h j (omega arith) (omega arith)))

word_small : (w : ℕ) → Bytes (word_bytes w)
word_small w = (omega arith, (omega arith, (omega arith, (omega arith, record {}))))

no_packet_small : Bytes no_packet
no_packet_small = (omega arith, (omega arith, (omega arith, (omega arith, (omega arith, record {})))))

senders_few : (o : Output) → length (senders o) ≤ 5
senders_few (of_active a) = omega arith
senders_few (of_passive p) = omega arith
senders_few (of_side r o) = omega arith
senders_few (to_unit r) = omega arith
senders_few (from_unit r) = omega arith

module _ (pl : Plan) (s : State) (range : InRange pl.head) (v : Valid pl s) (out : Bounded pl s) where
  -- ---- packets
  packet_small : (x : Packet) → PacketOk pl x → Bytes (packet_bytes x)
  packet_small x h =
      let k = kind_small x.kind in
      let a = range.actives.1 in
      let p = range.passives.1 in
      let t = range.slots.1 in
      let ha = h.active in let hp = h.passive in let ht = h.slot in let hh = h.hub in
      (omega arith, (omega arith, (omega arith, (omega arith, (omega arith, record {})))))

  places_small : (c : ℕ) (xs : List Packet) → ((x : Packet) → In x xs → PacketOk pl x) → Bytes (place_bytes c xs)
  unfolding place_bytes
  places_small zero xs h = record {}
  places_small (suc c) [] h = bytes_append no_packet (place_bytes c []) no_packet_small (places_small c [] h)
  places_small (suc c) (x ∷ xs) h = bytes_append (packet_bytes x) (place_bytes c xs) (packet_small x (h x (inl refl)))
      (places_small c xs (λ y i. h y (inr i)))

  lined_ok : (q : Queue) (done : Bool) (xs : List Packet) → Lined pl q done xs → (x : Packet) → In x xs → PacketOk pl x
  lined_ok q done [] h x i = absurd i
  lined_ok q done (y ∷ xs) (h, k) x (inl e) = rw e h.ranges
  lined_ok q done (y ∷ xs) (h, k) x (inr i) = (k x i).ranges

  -- ---- rows
  credit_small : (q : Queue) → Exists pl q → (s.flow.credit q).0 ≤ 7
  credit_small q h = by (test (fed pl q))
    where
      by : (fed pl q ≡ true) ⊎ (fed pl q ≡ false) → (s.flow.credit q).0 ≤ 7
      by (inl t) = let c = v.credits q h t in let m = capacity_most pl.head q range in omega arith
      by (inr t) = let c = v.out_credits q h t in let m = capacity_most pl.head q range in omega arith

  queue_small : (q : Queue) → Exists pl q → Bytes (queue_bytes s q)
  unfolding queue_bytes
  queue_small q h =
      let c = credit_small q h in
      let f = flag_small (s.flow.flag q) in
      let g = flag_small (s.lines.handled q) in
      let n = v.capacities q h in
      let m = capacity_most pl.head q range in
      let l =
      places_small places (s.lines.queue q) (lined_ok q (s.lines.handled q) (s.lines.queue q) (v.places q h)) in
      (omega arith, (omega arith, (omega arith, (omega arith, l))))

  wire_small : (o : Output) → Drives pl o → (w : Wire) → s.links.wire o ≡ w → Bytes (wire_bytes w)
  wire_small o h Empty e = (omega arith, no_packet_small)
  wire_small o h (Full x) e = (omega arith, packet_small x (v.wires o h x e).belongs.ranges)

  choice_small : (o : Output) → Drives pl o → (c : Choice) → s.links.choice o ≡ c → choice_code c < 256
  choice_small o h nobody e = omega arith
  choice_small o h (sender k) e =
      let c = (v.choices o k h e).1 in
      let l = rank_below (senders o) k c.0 c.1 in
      let m = senders_few o in
      omega arith

  output_small : (o : Output) → Drives pl o → Bytes (output_bytes s o)
  unfolding output_bytes
  output_small o h =
      bytes_append (wire_bytes (s.links.wire o)) (choice_code (s.links.choice o) ∷ [])
      (wire_small o h (s.links.wire o) refl) (choice_small o h (s.links.choice o) refl, record {})

  allowance_small : (a : ℕ) → a < A pl → Bytes (allowance_bytes s a)
  allowance_small a h = let e = v.allowances a h in let m = range.aout.1 in (omega arith, record {})

  entry_small : (r o t : ℕ) → r < R pl → o < 4 → Bytes (entry_bytes (s.table r o t))
  unfolding start blank
  entry_small r o t hr ho = by (s.table r o t) refl (lt_or_ge t (S pl))
    where
      by : (x : Entry) → s.table r o t ≡ x → (t < S pl) ⊎ (S pl ≤ t) → Bytes (entry_bytes x)
      by Free e c = (omega arith, (omega arith, record {}))
      by (Booked i) e (inl l) = let m = v.entries r o t i hr ho l e in (omega arith, (omega arith, record {}))
      by (Booked i) e (inr g) =
          let f : s.table r o t ≡ Free = out.table r o t (λ h. let l = h.2 in omega arith) in
          let z : ◌≡◌ {A = Entry} Free (Booked i) = sym f ∙ e in
          let y : ◌≡◌ {A = ℕ} 0 1 = cc in absurd (omega arith)

  turn_small : (o : Output) → Drives pl o → Bytes (turn_bytes s o)
  turn_small o h = let l = v.turns.ranks o h in let m = senders_few o in (omega arith, record {})

  -- ---- the whole
  pub bytes_small : Bytes (encode pl s [])
  unfolding encode
  bytes_small =
      let p = phase_small s.clock.phase in let t = v.slot in let m = range.slots.1 in
      let sixth : List ℕ = turn_part pl s ++ [] in
      let fifth : List ℕ = connection_part pl s ++ sixth in
      let fourth : List ℕ = table_part pl s ++ fifth in
      let third : List ℕ = allowance_part pl s ++ fourth in (
        omega arith,
        (
          omega arith,
          bytes_append (queue_part pl s) (output_part pl s ++ third)
              (bytes_span 0 (queues pl) _ (λ n a b. queue_small (queue_at pl n) (exists_at pl n (omega arith))))
              (bytes_append (output_part pl s) third
              (bytes_span 0 (outputs pl) _ (λ n a b. output_small (output_at pl n) (drives_at pl n (omega arith))))
              (bytes_append (allowance_part pl s) fourth
              (bytes_span 0 (A pl) _ (λ n a b. allowance_small n (omega arith)))
              (bytes_append (table_part pl s) fifth
              (bytes_span 0 (entries pl) _ (λ n a b. let e = entry_named pl n (omega arith) in
              entry_small (n / router_entries) (n % router_entries / slot_room) (n % slot_room) e.0 e.1))
              (bytes_append (connection_part pl s) sixth
              (bytes_span 0 (pairs pl) _ (λ n a b. word_small (starts_of s (n / passive_room) (n % passive_room))))
              (bytes_append (turn_part pl s) []
              (bytes_span 0 (outputs pl) _ (λ n a b. turn_small (output_at pl n) (drives_at pl n (omega arith))))
              (record {})))))),
        ),
      )
