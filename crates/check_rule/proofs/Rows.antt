-- A row that has its form agrees with the bytes that the layout gives to what is read from it.
use mathlib.Core.Path.{◌≡◌, refl, sym, ap, subst⁻¹, ◌∙◌}
use mathlib.Core.Logic.{◌⊎◌, inl, inr}
use mathlib.Core.Bool.{Bool, true, false, not, ◌||◌}
use mathlib.Core.List.{List, [], ◌∷◌}
use Prim.Native.Nat.{ℕ, zero, suc, ◌+◌, ◌/◌, ◌%◌, ◌≤◌, ◌<◌}
use native.Mathlib.Nat.{add-zero}
use native.Mathlib.Omega.{arith}
use lib.Dec.{eqb, ltb, leb}
use lib.ListN.{length, get_or}
use borrow.Author.Tests.{lt-ltb, leb-true, eqb-true}
use Rattle.basis.specs.Choice.{pick, test, also_true}
use Rattle.basis.specs.Bounded.{all_below, all_at}
use Rattle.sets.specs.Sets.{has, those}
use Rattle.sets.specs.Laws.{same_set, has_those, those_below}
use Rattle.plan.specs.Plan.{Plan, A, R, S}
use Rattle.plan_queues.specs.Queue.{Queue, Exists}
use Rattle.plan_queues.specs.Feeds.{Output}
use Rattle.rules.specs.State.{blank}
use Rattle.rules.specs.Valid.{Drives}
use Rattle.bytes_layout.specs.Named.{exists_test_lem, drives_test_lem, is_connection}
use Rattle.bytes_layout.specs.Offsets.{places, packet_kind, packet_width, flag_byte, handled_byte, first_place}
use Rattle.bytes_layout.specs.Offsets.{wire_byte}
use Rattle.bytes_layout.specs.Offsets.{wire_packet, choice_byte, slot_room, queue_row, output_row, allowance_row}
use Rattle.bytes_layout.specs.Offsets.{entry_row}
use Rattle.bytes_layout.specs.Offsets.{passive_room, turn_row}
use Rattle.bytes_layout.specs.Codes.{flag_code, flag_of, choice_code}
use Rattle.bytes_layout.specs.Places.{packet_bytes, no_packet, place_bytes, packet_at, packets_at}
use Rattle.bytes_layout.specs.Encode.{queue_bytes, wire_bytes, output_bytes, allowance_bytes, entry_bytes, word_bytes}
use Rattle.bytes_layout.specs.Encode.{starts_of}
use Rattle.bytes_layout.specs.Encode.{starts_bytes, turn_bytes, length_wire}
use Rattle.bytes_layout.specs.Decode.{flag_at, mark_at, length_at, queue_in, wire_from, wire_at, choice_at, four_at}
use Rattle.bytes_layout.specs.Decode.{decode}
use Rattle.check_rule.specs.Forms.{zeros, places_form, queue_form, output_form, side_form, pair_row, word_form}
use Rattle.check_rule.specs.Forms.{start_form}
use Rattle.check_rule.specs.Forms.{starts_form}
use Rattle.check_rule.proofs.Agree.{Agrees, agrees_none, agrees_append}
use Rattle.check_rule.proofs.Bytes.{kind_byte, flag_byte_lem, choice_byte_lem, entry_byte, zeros_get}

-- ---- one byte
byte_agrees : (i x : ℕ) (b : List ℕ) → get_or b (i + 0) 0 ≡ x → Agrees i (x ∷ []) b
byte_agrees i x b e zero l = e
byte_agrees i x b e (suc k) l = absurd (omega arith)

-- ---- places
pub packet_agrees : (i : ℕ) (b : List ℕ) → get_or b (i + packet_kind) 0 ≤ 3 → Agrees i (packet_bytes (packet_at i b)) b
unfolding packet_at
packet_agrees i b h zero l = sym (kind_byte (get_or b (i + packet_kind) 0) h)
packet_agrees i b h (suc zero) l = refl
packet_agrees i b h (suc (suc zero)) l = refl
packet_agrees i b h (suc (suc (suc zero))) l = refl
packet_agrees i b h (suc (suc (suc (suc zero)))) l = refl
packet_agrees i b h (suc (suc (suc (suc (suc n))))) l = absurd (omega arith)

pub nothing_agrees : (i : ℕ) (b : List ℕ) → zeros i packet_width b ≡ true → Agrees i no_packet b
nothing_agrees i b e zero l = zeros_get i packet_width b e 0 (omega arith)
nothing_agrees i b e (suc zero) l = zeros_get i packet_width b e 1 (omega arith)
nothing_agrees i b e (suc (suc zero)) l = zeros_get i packet_width b e 2 (omega arith)
nothing_agrees i b e (suc (suc (suc zero))) l = zeros_get i packet_width b e 3 (omega arith)
nothing_agrees i b e (suc (suc (suc (suc zero)))) l = zeros_get i packet_width b e 4 (omega arith)
nothing_agrees i b e (suc (suc (suc (suc (suc n))))) l = absurd (omega arith)

-- no packets, and as many as there are
pub packets_none : (c i : ℕ) (b : List ℕ) → packets_at c 0 i b ≡ []
unfolding packets_at
packets_none zero i b = refl
packets_none (suc c) i b = refl

packets_count : (c n i : ℕ) (b : List ℕ) → n ≤ c → length (packets_at c n i b) ≡ n
unfolding packets_at
packets_count zero zero i b h = refl
packets_count zero (suc n) i b h = absurd (omega arith)
packets_count (suc c) zero i b h = refl
packets_count (suc c) (suc n) i b h = ap suc (packets_count c n (i + packet_width) b (omega arith))

places_agree : (c n i : ℕ) (b : List ℕ) → places_form c n i b ≡ true → Agrees i (place_bytes c (packets_at c n i b)) b
unfolding places_form place_bytes packets_at
places_agree zero n i b e = agrees_none i b
places_agree (suc c) zero i b e =
    let p = also_true e in
    agrees_append i (i + packet_width) no_packet (place_bytes c []) b refl (nothing_agrees i b p.0)
    (rw (packets_none c (i + packet_width) b) at (places_agree c zero (i + packet_width) b p.1))
places_agree (suc c) (suc n) i b e =
    let p = also_true e in
    agrees_append i (i + packet_width) (packet_bytes (packet_at i b))
    (place_bytes c (packets_at c n (i + packet_width) b)) b
    refl
    (packet_agrees i b (leb-true (get_or b (i + packet_kind) 0) 3 p.0))
    (places_agree c n (i + packet_width) b p.1)

-- ---- a queue's row
frame_agrees : (i : ℕ) (b : List ℕ) → get_or b (i + flag_byte) 0 ≤ 1 → get_or b (i + handled_byte) 0 ≤ 1
    → length_at i b ≤ places
    → Agrees i (get_or b (i + 0) 0 ∷ flag_code (flag_at i b) ∷ flag_code (mark_at i b) ∷ length (queue_in i b) ∷ []) b
frame_agrees i b f m n zero l = refl
frame_agrees i b f m n (suc zero) l = sym (flag_byte_lem (get_or b (i + flag_byte) 0) f)
frame_agrees i b f m n (suc (suc zero)) l = sym (flag_byte_lem (get_or b (i + handled_byte) 0) m)
frame_agrees i b f m n (suc (suc (suc zero))) l = sym (packets_count places (length_at i b) (i + first_place) b n)
frame_agrees i b f m n (suc (suc (suc (suc k)))) l = absurd (omega arith)

abbrev row_read : ℕ → List ℕ → List ℕ
row_read i b =
    get_or b (i + 0) 0 ∷ flag_code (flag_at i b) ∷ flag_code (mark_at i b) ∷ length (queue_in i b)
    ∷ place_bytes places (queue_in i b)

row_agrees : (i : ℕ) (b : List ℕ) → queue_form i b ≡ true → Agrees i (row_read i b) b
unfolding queue_form
row_agrees i b e =
    let p = also_true e in let q = also_true p.1 in let r = also_true q.1 in
    agrees_append i (i + first_place)
    (get_or b (i + 0) 0 ∷ flag_code (flag_at i b) ∷ flag_code (mark_at i b) ∷ length (queue_in i b) ∷ [])
    (place_bytes places (queue_in i b)) b refl
    (frame_agrees i b (leb-true (get_or b (i + flag_byte) 0) 1 p.0) (leb-true (get_or b (i + handled_byte) 0) 1 q.0)
    (leb-true (length_at i b) places r.0))
    (places_agree places (length_at i b) (i + first_place) b r.1)

queue_read : (pl : Plan) (b : List ℕ) (q : Queue) → Exists pl q
    → queue_bytes (decode pl b) q ≡ row_read (queue_row pl q) b
unfolding queue_bytes decode
queue_read pl b q h = rw (exists_test_lem pl q h)

pub queue_agrees : (pl : Plan) (b : List ℕ) (q : Queue) → Exists pl q → queue_form (queue_row pl q) b ≡ true
    → Agrees (queue_row pl q) (queue_bytes (decode pl b) q) b
queue_agrees pl b q h e =
    subst⁻¹ (λ (x : List ℕ). Agrees (queue_row pl q) x b) (queue_read pl b q h) (row_agrees (queue_row pl q) b e)

-- ---- an output's row
wire_agrees : (i : ℕ) (b : List ℕ) → output_form i b ≡ true → Agrees i (wire_bytes (wire_at i b)) b
unfolding output_form
wire_agrees i b e =
    let p = also_true e in by (get_or b (i + wire_byte) 0) refl (leb-true (get_or b (i + wire_byte) 0) 1 p.0) p.1
  where
    by : (n : ℕ) → get_or b (i + wire_byte) 0 ≡ n → n ≤ 1
        → pick (eqb n 1) (leb (get_or b (i + wire_packet + packet_kind) 0) 3) (zeros (i + wire_packet) packet_width b) ≡
        true
        → Agrees i (wire_bytes (wire_from (flag_of n) (packet_at (i + wire_packet) b))) b
    by zero w h t = agrees_append i (i + wire_packet) (0 ∷ []) no_packet b refl (byte_agrees i 0 b w)
        (nothing_agrees (i + wire_packet) b t)
    by (suc zero) w h t = agrees_append i (i + wire_packet) (1 ∷ []) (packet_bytes (packet_at (i + wire_packet) b)) b
        refl
        (byte_agrees i 1 b w)
        (packet_agrees (i + wire_packet) b (leb-true (get_or b (i + wire_packet + packet_kind) 0) 3 t))
    by (suc (suc n)) w h t = absurd (omega arith)

pub output_agrees : (pl : Plan) (b : List ℕ) (o : Output) → Drives pl o → output_form (output_row pl o) b ≡ true
    → Agrees (output_row pl o) (output_bytes (decode pl b) o) b
unfolding output_bytes decode
output_agrees pl b o h e =
    rw (drives_test_lem pl o h) (agrees_append (output_row pl o) (output_row pl o + choice_byte)
    (wire_bytes (wire_at (output_row pl o) b)) (choice_code (choice_at (output_row pl o) b) ∷ []) b
    (rw (length_wire (wire_at (output_row pl o) b))) (wire_agrees (output_row pl o) b e)
    (byte_agrees (output_row pl o + choice_byte) _ b
    (rw (add-zero (output_row pl o + choice_byte)) (sym
    (choice_byte_lem (get_or b (output_row pl o + choice_byte) 0))))))

-- ---- an active's allowance
pub allowance_agrees : (pl : Plan) (b : List ℕ) (a : ℕ) → a < A pl
    → Agrees (allowance_row pl a) (allowance_bytes (decode pl b) a) b
unfolding decode
allowance_agrees pl b a h = byte_agrees (allowance_row pl a) _ b (rw (lt-ltb a (A pl) h, add-zero (allowance_row pl a)))

-- ---- what an output remembers: every byte is a rank
pub turn_agrees : (pl : Plan) (b : List ℕ) (o : Output) → Drives pl o
    → Agrees (turn_row pl o) (turn_bytes (decode pl b) o) b
unfolding decode
turn_agrees pl b o h = byte_agrees (turn_row pl o) _ b (rw (drives_test_lem pl o h, add-zero (turn_row pl o)))

-- ---- an entry
-- the first byte past the plan's slots, or within them
entry_code_at : (pl : Plan) (b : List ℕ) (r o t : ℕ) → r < R pl → o < 4
    → (ltb t (S pl) || eqb (get_or b (entry_row pl r o t) 0) 0) ≡ true
    → get_or b (entry_row pl r o t) 0 ≡ get_or (entry_bytes ((decode pl b).table r o t)) 0 0
unfolding decode blank
entry_code_at pl b r o t hr ho e = by (test (ltb t (S pl)))
  where
    by : (ltb t (S pl) ≡ true) ⊎ (ltb t (S pl) ≡ false)
        → get_or b (entry_row pl r o t) 0 ≡ get_or (entry_bytes ((decode pl b).table r o t)) 0 0
    by (inl l) = rw (lt-ltb r (R pl) hr, lt-ltb o 4 ho, l) (sym (entry_byte (get_or b (entry_row pl r o t) 0)))
    by (inr g) = rw (lt-ltb r (R pl) hr, lt-ltb o 4 ho, g) (eqb-true (get_or b (entry_row pl r o t) 0) 0 (rw g at e))

side_entry : (pl : Plan) (b : List ℕ) (r o t : ℕ) → side_form pl r o b ≡ true → t < slot_room
    → (eqb (get_or b (entry_row pl r o t + 1) 0) 0 ≡ true)
    × ((ltb t (S pl) || eqb (get_or b (entry_row pl r o t) 0) 0) ≡ true)
unfolding side_form
side_entry pl b r o t e h = also_true (all_at slot_room _ e t h)

pub entry_agrees : (pl : Plan) (b : List ℕ) (r o t : ℕ) → r < R pl → o < 4 → t < slot_room → side_form pl r o b ≡ true
    → Agrees (entry_row pl r o t) (entry_bytes ((decode pl b).table r o t)) b
entry_agrees pl b r o t hr ho ht e zero l =
    rw (add-zero (entry_row pl r o t)) (entry_code_at pl b r o t hr ho (side_entry pl b r o t e ht).1)
entry_agrees pl b r o t hr ho ht e (suc zero) l =
    eqb-true (get_or b (entry_row pl r o t + 1) 0) 0 (side_entry pl b r o t e ht).0
entry_agrees pl b r o t hr ho ht e (suc (suc k)) l = absurd (omega arith)

-- ---- a pair's start slots
-- the four bytes of a word
word_byte : (i : ℕ) (b : List ℕ) → word_form i b ≡ true → (k : ℕ) → k < 4 → get_or b (i + k) 0 ≤ 255
unfolding word_form
word_byte i b e k h = leb-true (get_or b (i + k) 0) 255 (all_at 4 (λ j. leb (get_or b (i + j) 0) 255) e k h)

word_small : (i : ℕ) (b : List ℕ) → word_form i b ≡ true → four_at i b < 4294967296
unfolding four_at
word_small i b e =
    let x = rw (add-zero i) at (word_byte i b e 0 (omega arith)) in
    let y = word_byte i b e 1 (omega arith) in
    let z = word_byte i b e 2 (omega arith) in
    let v = word_byte i b e 3 (omega arith) in
    omega arith

word_agrees : (i : ℕ) (b : List ℕ) → word_form i b ≡ true → Agrees i (word_bytes (four_at i b)) b
unfolding four_at
word_agrees i b e = by
  where
    x : get_or b i 0 ≤ 255
    x = rw (add-zero i) at (word_byte i b e 0 (omega arith))

    y : get_or b (i + 1) 0 ≤ 255
    y = word_byte i b e 1 (omega arith)

    z : get_or b (i + 2) 0 ≤ 255
    z = word_byte i b e 2 (omega arith)

    v : get_or b (i + 3) 0 ≤ 255
    v = word_byte i b e 3 (omega arith)

    by : Agrees i (word_bytes (four_at i b)) b
    by zero l = rw (add-zero i) (omega (arith, x))
    by (suc zero) l = omega (arith, x, y)
    by (suc (suc zero)) l = omega (arith, x, y, z)
    by (suc (suc (suc zero))) l = omega (arith, x, y, z, v)
    by (suc (suc (suc (suc k)))) l = absurd (omega arith)

-- what the form says
starts_parts : (pl : Plan) (b : List ℕ) (n : ℕ) → starts_form pl b n ≡ true
    → (word_form (pair_row pl n) b ≡ true) × (all_below slot_room (start_form pl b n) ≡ true)
unfolding starts_form
starts_parts pl b n e = also_true e

-- a bit that is not the plan's is not set, so every bit is read as it stands
start_read : (pl : Plan) (b : List ℕ) (n t : ℕ) → start_form pl b n t ≡ true
    → (decode pl b).connections (n / passive_room) (n % passive_room) t ≡ has (four_at (pair_row pl n) b) t
unfolding decode blank
start_read pl b n t e = by (is_connection pl (n / passive_room) (n % passive_room) t)
    (has (four_at (pair_row pl n) b) t) e
  where
    by : (c h : Bool) → (c || not h) ≡ true → pick c h false ≡ h
    by true h q = refl
    by false true q = q
    by false false q = refl

starts_read : (pl : Plan) (b : List ℕ) (n : ℕ) → starts_form pl b n ≡ true
    → starts_of (decode pl b) (n / passive_room) (n % passive_room) ≡ four_at (pair_row pl n) b
starts_read pl b n e =
    let p = starts_parts pl b n e in
    let f : ℕ → Bool = (decode pl b).connections (n / passive_room) (n % passive_room) in
    same_set slot_room (those slot_room f) (four_at (pair_row pl n) b) (those_below slot_room f)
    (word_small (pair_row pl n) b p.0)
    (λ t h. has_those slot_room f t h ∙ start_read pl b n t (all_at slot_room (start_form pl b n) p.1 t h))

pub starts_agrees : (pl : Plan) (b : List ℕ) (n : ℕ) → starts_form pl b n ≡ true
    → Agrees (pair_row pl n) (starts_bytes (decode pl b) n) b
starts_agrees pl b n e =
    subst⁻¹ (λ (w : ℕ). Agrees (pair_row pl n) (word_bytes w) b) (starts_read pl b n e)
    (word_agrees (pair_row pl n) b (starts_parts pl b n e).0)
