-- The bytes of a state: header, a row for each queue, a row for each output, the allowances, the table, the accepted
-- connections, the last senders; and the bytes past the state.
use Rattle.std.specs.Prelude.{◌≡◌, refl, ℕ, ◌*◌, ◌/◌, ◌%◌, length}
use mathlib.Core.List.{List, [], ◌∷◌, ◌++◌, append_assoc}
use Rattle.std.proofs.Common.{arith}
use Rattle.std.proofs.Math.ListN.{length-append}
use Rattle.sets.specs.Sets.{those}
use Rattle.packets.specs.declared.Wire.{Wire}
use Rattle.packets.specs.declared.Wire.TheVariants.{Empty, Full}
use Rattle.packets.specs.declared.Entry.{Entry}
use Rattle.plan.specs.Plan.{Plan, A}
use Rattle.plan_queues.specs.Queue.{Queue, queues, queue_at}
use Rattle.plan_queues.specs.Feeds.{Output}
use Rattle.rules.specs.Outputs.{outputs, output_at}
use Rattle.rules.specs.State.{State}
use Rattle.bytes_layout.specs.Rows.{rows, rows_length}
use Rattle.bytes_layout.specs.Offsets.{places, queue_width, output_width, choice_byte, entry_width, router_entries}
use Rattle.bytes_layout.specs.Offsets.{slot_room, entries, passive_room, starts_width, pairs, size}
use Rattle.bytes_layout.specs.Codes.{phase_code, flag_code, choice_code, entry_code}
use Rattle.bytes_layout.specs.Places.{packet_bytes, no_packet, place_bytes, length_places}

-- ---- one row
-- credit, flag, handled mark, length, places
unfoldable pub queue_bytes : State → Queue → List ℕ
queue_bytes s q =
    (s.flow.credit q).0 ∷ flag_code (s.flow.flag q) ∷ flag_code (s.lines.handled q) ∷ length (s.lines.queue q)
    ∷ place_bytes places
    (s.lines.queue q)

-- a full wire's packet, zero bytes where it is empty
abbrev pub wire_bytes : Wire → List ℕ
wire_bytes Empty = 0 ∷ no_packet
wire_bytes (Full x) = 1 ∷ packet_bytes x

unfoldable pub output_bytes : State → Output → List ℕ
output_bytes s o = wire_bytes (s.links.wire o) ++ (choice_code (s.links.choice o) ∷ [])

abbrev pub allowance_bytes : State → ℕ → List ℕ
allowance_bytes s a = s.flow.allowance a ∷ []

abbrev pub entry_bytes : Entry → List ℕ
entry_bytes x = entry_code x ∷ 0 ∷ []

-- the entry of a number: its router, its side, its slot
abbrev pub entry_of_number : State → ℕ → Entry
entry_of_number s n = s.table (n / router_entries) (n % router_entries / slot_room) (n % slot_room)

-- four bytes of a word, the lowest first
abbrev pub word_bytes : ℕ → List ℕ
word_bytes w = w % 256 ∷ w / 256 % 256 ∷ w / 65536 % 256 ∷ w / 16777216 % 256 ∷ []

-- the start slots of a pair's accepted connections, as a set in a word
abbrev pub starts_of : State → ℕ → ℕ → ℕ
starts_of s a p = those slot_room (s.connections a p)

-- of the pair of a number: its active, its passive
abbrev pub starts_bytes : State → ℕ → List ℕ
starts_bytes s n = word_bytes (starts_of s (n / passive_room) (n % passive_room))

-- the last sender that an output served, by its rank
abbrev pub turn_bytes : State → Output → List ℕ
turn_bytes s o = s.last_sender o ∷ []

-- ---- the parts
abbrev pub header : State → List ℕ
header s = phase_code s.clock.phase ∷ s.clock.slot.0 ∷ []

abbrev pub queue_part : Plan → State → List ℕ
queue_part pl s = rows 0 (queues pl) (λ n. queue_bytes s (queue_at pl n))

abbrev pub output_part : Plan → State → List ℕ
output_part pl s = rows 0 (outputs pl) (λ n. output_bytes s (output_at pl n))

abbrev pub allowance_part : Plan → State → List ℕ
allowance_part pl s = rows 0 (A pl) (allowance_bytes s)

abbrev pub table_part : Plan → State → List ℕ
table_part pl s = rows 0 (entries pl) (λ n. entry_bytes (entry_of_number s n))

abbrev pub connection_part : Plan → State → List ℕ
connection_part pl s = rows 0 (pairs pl) (starts_bytes s)

abbrev pub turn_part : Plan → State → List ℕ
turn_part pl s = rows 0 (outputs pl) (λ n. turn_bytes s (output_at pl n))

-- the state's bytes, then the bytes past the state
unfoldable pub encode : Plan → State → List ℕ → List ℕ
encode pl s rest =
    header s
    ++ (queue_part pl s
    ++ (output_part pl s
    ++ (allowance_part pl s ++ (table_part pl s ++ (connection_part pl s ++ (turn_part pl s ++ rest))))))

-- ---- every row has its width
pub length_queue : (s : State) (q : Queue) → length (queue_bytes s q) ≡ queue_width
unfolding queue_bytes
length_queue s q = omega (arith, length_places places (s.lines.queue q))

-- a wire's bytes end where the choice stands
pub length_wire : (x : Wire) → length (wire_bytes x) ≡ choice_byte
length_wire Empty = refl
length_wire (Full x) = refl

pub length_output : (s : State) (o : Output) → length (output_bytes s o) ≡ output_width
unfolding output_bytes
length_output s o = rw (length-append (wire_bytes (s.links.wire o)), length_wire (s.links.wire o))

module _ (pl : Plan) (s : State) where
  -- and every part as many rows as it has
  pub length_queues : length (queue_part pl s) ≡ queue_width * queues pl
  length_queues =
      rows_length queue_width 0 (queues pl) (λ n. queue_bytes s (queue_at pl n)) (λ n. length_queue s (queue_at pl n))

  pub length_outputs : length (output_part pl s) ≡ output_width * outputs pl
  length_outputs =
      rows_length output_width 0 (outputs pl) (λ n. output_bytes s (output_at pl n))
      (λ n. length_output s (output_at pl n))

  pub length_allowances : length (allowance_part pl s) ≡ 1 * A pl
  length_allowances = rows_length 1 0 (A pl) (allowance_bytes s) (λ n. refl)

  pub length_table : length (table_part pl s) ≡ entry_width * entries pl
  length_table = rows_length entry_width 0 (entries pl) (λ n. entry_bytes (entry_of_number s n)) (λ n. refl)

  pub length_connections : length (connection_part pl s) ≡ starts_width * pairs pl
  length_connections = rows_length starts_width 0 (pairs pl) (starts_bytes s) (λ n. refl)

  pub length_turns : length (turn_part pl s) ≡ 1 * outputs pl
  length_turns = rows_length 1 0 (outputs pl) (λ n. turn_bytes s (output_at pl n)) (λ n. refl)

  -- the bytes past the state stand behind it
  pub encode_append : (rest : List ℕ) → encode pl s rest ≡ encode pl s [] ++ rest
  unfolding encode
  encode_append rest = simp append_assoc

  -- the state's bytes are as many as the layout says
  pub length_encode : length (encode pl s []) ≡ size pl
  unfolding encode size
  length_encode =
      rw (
        length-append (queue_part pl s),
        length-append (output_part pl s),
        length-append (allowance_part pl s),
        length-append (table_part pl s),
        length-append (connection_part pl s),
        length-append (turn_part pl s),
        length_queues,
        length_outputs,
        length_allowances,
        length_table,
        length_connections,
        length_turns,
      ) (omega arith)
