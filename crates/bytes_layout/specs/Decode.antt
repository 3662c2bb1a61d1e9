-- The state of bytes, whatever they are: each part read at its offset where the plan has it, and blank elsewhere.
-- So it is bounded, and small: its queues fit in their places, as those of every valid state do.
use Rattle.std.specs.Prelude.{◌≡◌, Bool, true, false, List, ℕ, ◌+◌, ◌*◌, ◌≤◌, ltb, length, get_or}
use Rattle.std.proofs.Common.{arith, ltb-true}
use Rattle.basis.specs.Choice.{pick, refuted}
use Rattle.sets.specs.Sets.{has}
use Rattle.kinds.specs.declared.Credit.{Credit}
use Rattle.packets.specs.declared.Packet.{Packet}
use Rattle.packets.specs.declared.Wire.{Wire}
use Rattle.packets.specs.declared.Wire.TheVariants.{Empty, Full}
use Rattle.packets.specs.declared.Entry.{Entry}
use Rattle.plan.specs.declared.Head.{Head}
use Rattle.plan.specs.Head.{InRange}
use Rattle.plan.specs.Plan.{Plan, A}
use Rattle.plan_queues.specs.Queue.{Queue, active_out, active_in, passive_in, passive_out, U, Q, F, K, Exists}
use Rattle.rules.specs.Capacity.{capacity}
use Rattle.rules.specs.State.{State, Choice, blank}
use Rattle.rules.specs.Valid.{Valid, Bounded}
use Rattle.bytes_layout.specs.Named.{exists_test, test_exists, exists_test_lem, drives_test, test_drives, is_entry}
use Rattle.bytes_layout.specs.Named.{test_entry, is_connection, test_connection}
use Rattle.bytes_layout.specs.Offsets.{phase_byte, slot_byte, places, credit_byte, flag_byte, handled_byte, length_byte}
use Rattle.bytes_layout.specs.Offsets.{first_place, wire_byte, wire_packet, choice_byte, queue_row, output_row}
use Rattle.bytes_layout.specs.Offsets.{allowance_row}
use Rattle.bytes_layout.specs.Offsets.{entry_row, starts_row, turn_row}
use Rattle.bytes_layout.specs.Codes.{phase_of, flag_of, choice_of, entry_from}
use Rattle.bytes_layout.specs.Places.{packet_at, packets_at, packets_few}

-- ---- one row, at its offset
abbrev pub credit_at : ℕ → List ℕ → Credit
credit_at i b = record { 0 = get_or b (i + credit_byte) 0 }

abbrev pub flag_at : ℕ → List ℕ → Bool
flag_at i b = flag_of (get_or b (i + flag_byte) 0)

abbrev pub mark_at : ℕ → List ℕ → Bool
mark_at i b = flag_of (get_or b (i + handled_byte) 0)

abbrev pub length_at : ℕ → List ℕ → ℕ
length_at i b = get_or b (i + length_byte) 0

abbrev pub queue_in : ℕ → List ℕ → List Packet
queue_in i b = packets_at places (length_at i b) (i + first_place) b

abbrev pub wire_from : Bool → Packet → Wire
wire_from false x = Empty
wire_from true x = Full x

abbrev pub wire_at : ℕ → List ℕ → Wire
wire_at i b = wire_from (flag_of (get_or b (i + wire_byte) 0)) (packet_at (i + wire_packet) b)

abbrev pub choice_at : ℕ → List ℕ → Choice
choice_at i b = choice_of (get_or b (i + choice_byte) 0)

abbrev pub entry_at : ℕ → List ℕ → Entry
entry_at i b = entry_from (get_or b i 0)

-- four bytes as a word, the first the lowest
unfoldable pub four_at : ℕ → List ℕ → ℕ
four_at i b = get_or b i 0 + 256 * get_or b (i + 1) 0 + 65536 * get_or b (i + 2) 0 + 16777216 * get_or b (i + 3) 0

-- ---- the whole
unfoldable pub decode : Plan → List ℕ → State
decode pl b =
    record {
      clock = record { phase = phase_of (get_or b phase_byte 0); slot = record { 0 = get_or b slot_byte 0 } };
      lines = record {
        queue = λ q. pick (exists_test pl q) (queue_in (queue_row pl q) b) ((blank pl).lines.queue q);
        handled = λ q. pick (exists_test pl q) (mark_at (queue_row pl q) b) ((blank pl).lines.handled q);
      };
      flow = record {
        credit = λ q. pick (exists_test pl q) (credit_at (queue_row pl q) b) ((blank pl).flow.credit q);
        flag = λ q. pick (exists_test pl q) (flag_at (queue_row pl q) b) ((blank pl).flow.flag q);
        allowance = λ a. pick (ltb a (A pl)) (get_or b (allowance_row pl a) 0) ((blank pl).flow.allowance a);
      };
      links = record {
        wire = λ o. pick (drives_test pl o) (wire_at (output_row pl o) b) ((blank pl).links.wire o);
        choice = λ o. pick (drives_test pl o) (choice_at (output_row pl o) b) ((blank pl).links.choice o);
      };
      table = λ r o t. pick (is_entry pl r o t) (entry_at (entry_row pl r o t) b) ((blank pl).table r o t);
      connections = λ a p t.
          pick (is_connection pl a p t) (has (four_at (starts_row pl a p) b) t) ((blank pl).connections a p t);
      last_sender = λ o. pick (drives_test pl o) (get_or b (turn_row pl o) 0) ((blank pl).last_sender o);
    }

-- ---- outside the plan's places, what is read is blank
left : {X : Type 0} (t : Bool) (x d : X) → (t ≡ true → ⊥) → pick t x d ≡ d
left t x d h = rw (refuted t h)

pub decode_bounded : (pl : Plan) (b : List ℕ) → Bounded pl (decode pl b)
unfolding decode
decode_bounded pl b =
    record {
      queue = λ q h. left (exists_test pl q) _ _ (λ e. h (test_exists pl q e));
      credit = λ q h. left (exists_test pl q) _ _ (λ e. h (test_exists pl q e));
      flag = λ q h. left (exists_test pl q) _ _ (λ e. h (test_exists pl q e));
      handled = λ q h. left (exists_test pl q) _ _ (λ e. h (test_exists pl q e));
      wire = λ o h. left (drives_test pl o) _ _ (λ e. h (test_drives pl o e));
      choice = λ o h. left (drives_test pl o) _ _ (λ e. h (test_drives pl o e));
      table = λ r o t h. left (is_entry pl r o t) _ _ (λ e. h (test_entry pl r o t e));
      connection = λ a p t h. left (is_connection pl a p t) _ _ (λ e. h (test_connection pl a p t e));
      allowance = λ a h. left (ltb a (A pl)) _ _ (λ e. h (ltb-true a (A pl) e));
      last_sender = λ o h. left (drives_test pl o) _ _ (λ e. h (test_drives pl o e));
    }

-- ---- queues that fit in their places
-- what a state needs so that its bytes tell it: no queue has more packets than places
pub record Small (pl : Plan) (s : State) : Type 0 where
  pub few : (q : Queue) → Exists pl q → length (s.lines.queue q) ≤ places

-- 'eight capacities of 3 bits, 1 to 7'
pub capacity_most : (h : Head) (q : Queue) → InRange h → capacity h q ≤ places
capacity_most h (active_out a) range = range.aout.1
capacity_most h (active_in a) range = range.ain.1
capacity_most h (passive_in p) range = range.pin.1
capacity_most h (passive_out p) range = range.pout.1
capacity_most h (U r i) range = range.u.1
capacity_most h (Q r i) range = range.q.1
capacity_most h (F g r o) range = range.f.1
capacity_most h (K r i o) range = range.k.1

-- a valid state's queues are within their capacities
pub valid_small : (pl : Plan) (s : State) → InRange pl.head → Valid pl s → Small pl s
valid_small pl s range v =
    record { few = λ q h. let c = v.capacities q h in let m = capacity_most pl.head q range in omega arith }

-- what is read from bytes is small
pub decode_small : (pl : Plan) (b : List ℕ) → Small pl (decode pl b)
unfolding decode
decode_small pl b =
    record {
      few = λ q h.
          rw (exists_test_lem pl q h) (packets_few places (length_at (queue_row pl q) b) (queue_row pl q + first_place)
          b);
    }
