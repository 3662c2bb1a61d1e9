-- What the code's tests of bytes tell of the state.
use mathlib.Core.Path.{◌≡◌, refl, sym, ap, ◌∙◌}
use mathlib.Core.Bool.{Bool, true, false, not}
use mathlib.Core.List.{List, [], ◌∷◌}
use Prim.Native.Nat.{ℕ, ◌+◌, ◌≤◌, ◌<◌}
use native.Mathlib.Omega.{arith}
use lib.Dec.{eqb}
use lib.ListN.{length, get_or}
use borrow.Author.Tests.{lt-ltb, le-ltb, eq-eqb, ne_eqb}
use Rattle.sets.specs.Sets.{has}
use Rattle.packets.specs.declared.Packet.{Packet}
use Rattle.packets.specs.declared.Phase.{Phase}
use Rattle.packets.specs.declared.Phase.TheVariants.{Read, Execute, Write}
use Rattle.plan.specs.Plan.{Plan, A}
use Rattle.plan_queues.specs.Queue.{Queue, Exists}
use Rattle.rules.specs.Capacity.{capacity}
use Rattle.rules.specs.State.{State}
use Rattle.rules.specs.Execute.{unmarked, has_room}
use Rattle.rules.specs.Visits.{is_empty, head_unmarked}
use Rattle.rules.specs.Calls.{is_phase}
use Rattle.bytes_layout.specs.Offsets.{first_place, queue_row, allowance_row, starts_row}
use Rattle.bytes_layout.specs.Codes.{phase_code}
use Rattle.bytes_layout.specs.Places.{packet_at}
use Rattle.bytes_layout.specs.Encode.{encode}
use Rattle.bytes_layout.specs.Decode.{flag_at, length_at, four_at}
use Rattle.bytes_layout.proofs.Readings.{flag_at_lem, length_at_lem, head_at, allowance_at, connection_at}

-- ---- the phase
not_read : (x : Phase) → (phase_code x ≡ 0 → ⊥) → not (is_phase x Read) ≡ true
not_read Read n = absurd (n refl)
not_read Execute n = refl
not_read Write n = refl

is_read : (x : Phase) → phase_code x ≡ 0 → not (is_phase x Read) ≡ false
is_read Read e = refl
is_read Execute e = absurd (omega arith)
is_read Write e = absurd (omega arith)

not_write : (x : Phase) → (phase_code x ≡ 2 → ⊥) → not (is_phase x Write) ≡ true
not_write Read n = refl
not_write Execute n = refl
not_write Write n = absurd (n refl)

is_write : (x : Phase) → phase_code x ≡ 2 → not (is_phase x Write) ≡ false
is_write Read e = absurd (omega arith)
is_write Execute e = absurd (omega arith)
is_write Write e = refl

-- ---- a queue
line_empty : (l : List Packet) → length l ≡ 0 → is_empty l ≡ true
line_empty [] e = refl
line_empty (x ∷ xs) e = absurd (omega arith)

line_some : (l : List Packet) → (length l ≡ 0 → ⊥) → is_empty l ≡ false
line_some [] n = absurd (n refl)
line_some (x ∷ xs) n = refl

-- a line that is not empty
pub record Headed (l : List Packet) : Type 0 where
  pub first : Packet
  pub behind : List Packet
  pub line : l ≡ first ∷ behind

headed : (l : List Packet) → (length l ≡ 0 → ⊥) → Headed l
headed [] n = absurd (n refl)
headed (x ∷ xs) n = record { first = x; behind = xs; line = refl }

module _ (pl : Plan) (s : State) (rest b : List ℕ) (same : b ≡ encode pl s rest) where
  phase_byte_lem : get_or b 0 0 ≡ phase_code s.clock.phase
  unfolding encode
  phase_byte_lem = ap (λ (x : List ℕ). get_or x 0 0) same

  pub read_wrong : (get_or b 0 0 ≡ 0 → ⊥) → not (is_phase s.clock.phase Read) ≡ true
  read_wrong n = not_read s.clock.phase (λ e. n (phase_byte_lem ∙ e))

  pub read_right : get_or b 0 0 ≡ 0 → not (is_phase s.clock.phase Read) ≡ false
  read_right e = is_read s.clock.phase (sym phase_byte_lem ∙ e)

  pub write_wrong : (get_or b 0 0 ≡ 2 → ⊥) → not (is_phase s.clock.phase Write) ≡ true
  write_wrong n = not_write s.clock.phase (λ e. n (phase_byte_lem ∙ e))

  pub write_right : get_or b 0 0 ≡ 2 → not (is_phase s.clock.phase Write) ≡ false
  write_right e = is_write s.clock.phase (sym phase_byte_lem ∙ e)

  module _ (q : Queue) (there : Exists pl q) (row : ℕ) (at : row ≡ queue_row pl q) where
    pub queued : length_at row b ≡ length (s.lines.queue q)
    queued = ap (λ (i : ℕ). length_at i b) at ∙ length_at_lem pl s rest b same q there

    pub flag_tells : {f : Bool} → flag_at row b ≡ f → s.flow.flag q ≡ f
    flag_tells e = sym (flag_at_lem pl s rest b same q there) ∙ ap (λ (i : ℕ). flag_at i b) (sym at) ∙ e

    pub empty_tells : length_at row b ≡ 0 → is_empty (s.lines.queue q) ≡ true
    empty_tells e = line_empty (s.lines.queue q) (sym queued ∙ e)

    pub some_tells : (length_at row b ≡ 0 → ⊥) → is_empty (s.lines.queue q) ≡ false
    some_tells n = line_some (s.lines.queue q) (λ e. n (queued ∙ e))

    pub full_tells : capacity pl.head q ≤ length_at row b → not (has_room pl q s) ≡ true
    full_tells l =
        rw (le-ltb (length (s.lines.queue q)) (capacity pl.head q) (let k = queued in omega arith))

    pub room_tells : length_at row b < capacity pl.head q → not (has_room pl q s) ≡ false
    room_tells l =
        rw (lt-ltb (length (s.lines.queue q)) (capacity pl.head q) (let k = queued in omega arith))

    pub has_head : (length_at row b ≡ 0 → ⊥) → Headed (s.lines.queue q)
    has_head n = headed (s.lines.queue q) (λ e. n (queued ∙ e))

    pub head_is : (l : Headed (s.lines.queue q)) → packet_at (row + first_place) b ≡ l.first
    head_is l =
        ap (λ (i : ℕ). packet_at (i + first_place) b) at
        ∙ head_at pl s rest b same q there l.first l.behind l.line

    pub unmarked_tells : (l : Headed (s.lines.queue q)) {f : Bool} → unmarked (packet_at (row + first_place) b) ≡ f
        → head_unmarked (s.lines.queue q) ≡ f
    unmarked_tells l e = ap head_unmarked l.line ∙ ap unmarked (sym (head_is l)) ∙ e

  module _ (a : ℕ) (l : a < A pl) (byte : ℕ) (at : byte ≡ allowance_row pl a) where
    pub allowed : get_or b byte 0 ≡ s.flow.allowance a
    allowed = ap (λ (i : ℕ). get_or b i 0) at ∙ allowance_at pl s rest b same a l

    pub none_tells : get_or b byte 0 ≡ 0 → eqb (s.flow.allowance a) 0 ≡ true
    none_tells e = eq-eqb (s.flow.allowance a) 0 (sym allowed ∙ e)

    pub left_tells : (get_or b byte 0 ≡ 0 → ⊥) → eqb (s.flow.allowance a) 0 ≡ false
    left_tells n = ne_eqb (s.flow.allowance a) 0 (λ e. n (allowed ∙ e))

  module _ (a p t : ℕ) (la : a < A pl) (lp : p < 16) (lt : t < 32) (at : ℕ) (of : at ≡ starts_row pl a p) where
    pub accepted_tells : {f : Bool} → has (four_at at b) t ≡ f → s.connections a p t ≡ f
    accepted_tells e =
        sym (connection_at pl s rest b same a p t la lp lt) ∙ ap (λ (i : ℕ). has (four_at i b) t) (sym of) ∙ e
