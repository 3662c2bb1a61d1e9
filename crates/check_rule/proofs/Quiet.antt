-- Rows of zero bytes pass: an idle output, an idle queue. Where all are idle no packet is anywhere.
use mathlib.Core.Path.{◌≡◌, refl, ap}
use mathlib.Core.Bool.{true, false, not}
use mathlib.Core.List.{List, []}
use Prim.Native.Nat.{ℕ, zero, suc, ◌+◌, ◌*◌, ◌≤◌, ◌<◌}
use native.Mathlib.Nat.{add-zero}
use native.Mathlib.Omega.{arith}
use lib.ListN.{get_or}
use borrow.Author.Tests.{le-leb, eq-eqb}
use Rattle.basis.specs.Choice.{also_of}
use Rattle.basis.specs.Bounded.{all_of, or_right}
use Rattle.packets.specs.declared.Packet.{Packet}
use Rattle.packets.specs.declared.Wire.TheVariants.{Empty}
use Rattle.packets.specs.declared.Phase.TheVariants.{Read, Execute, Write}
use Rattle.plan.specs.Plan.{Plan}
use Rattle.plan_queues.specs.Queue.{Queue, Exists, queues, queue_at}
use Rattle.plan_queues.specs.Feeds.{Output}
use Rattle.rules.specs.Capacity.{capacity}
use Rattle.rules.specs.Outputs.{outputs, output_at}
use Rattle.rules.specs.State.{nobody}
use Rattle.rules.specs.Calls.{is_phase}
use Rattle.rules.specs.Valid.{Drives, sum, brings, on_wires, in_all, in_wire, total, fed}
use Rattle.rules.proofs.Numbers.{exists_at}
use Rattle.rules.proofs.OutNumbers.{drives_at}
use Rattle.bytes_layout.specs.Named.{exists_test_lem, drives_test_lem}
use Rattle.bytes_layout.specs.Offsets.{places, packet_width, first_place, wire_byte, wire_packet, choice_byte}
use Rattle.bytes_layout.specs.Offsets.{output_width}
use Rattle.bytes_layout.specs.Offsets.{queue_row, output_row}
use Rattle.bytes_layout.specs.Decode.{decode}
use Rattle.check_rule.specs.Forms.{zeros, places_form, queue_form, output_form}
use Rattle.check_rule.specs.Parts.{output_test, pick_test}
use Rattle.check_rule.specs.Check.{output_row_test, queue_row_test}
use Rattle.check_rule.proofs.Bytes.{zeros_get, zeros_byte}
use Rattle.check_rule.proofs.Rows.{packets_none}
use Rattle.check_rule.proofs.Queues.{QueuePasses, queue_passes}

-- ---- bytes
-- zero bytes within zero bytes
pub zeros_part : (i n j m : ℕ) (b : List ℕ) → zeros i n b ≡ true → i ≤ j → j + m ≤ i + n → zeros j m b ≡ true
unfolding zeros
zeros_part i n j m b e h l =
    all_of m _ (λ k g. eq-eqb (get_or b (j + k) 0) 0 (zeros_byte i n (j + k) b e (omega arith) (omega arith)))

zeros_places : (c i : ℕ) (b : List ℕ) → zeros i (packet_width * c) b ≡ true → places_form c 0 i b ≡ true
unfolding places_form
zeros_places zero i b e = refl
zeros_places (suc c) i b e =
    also_of (zeros_part i (packet_width * suc c) i packet_width b e (omega arith) (omega arith))
    (zeros_places c (i + packet_width) b
    (zeros_part i (packet_width * suc c) (i + packet_width) (packet_width * c) b e (omega arith) (omega arith)))

-- ---- an output whose seven bytes are zero
module _ (pl : Plan) (b : List ℕ) (o : Output) (e : zeros (output_row pl o) output_width b ≡ true)
    (h : Drives pl o) where
  pub zeros_wire : (decode pl b).links.wire o ≡ Empty
  unfolding decode
  zeros_wire = rw (drives_test_lem pl o h, zeros_get (output_row pl o) output_width b e wire_byte (omega arith))

  pub zeros_choice : (decode pl b).links.choice o ≡ nobody
  unfolding decode
  zeros_choice = rw (drives_test_lem pl o h, zeros_get (output_row pl o) output_width b e choice_byte (omega arith))

  zeros_output_form : output_form (output_row pl o) b ≡ true
  unfolding output_form
  zeros_output_form =
      rw (zeros_get (output_row pl o) output_width b e wire_byte (omega arith))
      (zeros_part (output_row pl o) output_width (output_row pl o + wire_packet) packet_width b e (omega arith)
      (omega arith))

  zeros_output_test : output_test pl (decode pl b) o ≡ true
  unfolding output_test
  zeros_output_test =
      rw (zeros_wire, zeros_choice)
      (also_of (or_right (is_phase (decode pl b).clock.phase Read))
      (or_right (is_phase (decode pl b).clock.phase Write)))

  -- its row passes, it picked nobody, and its wire is empty
  pub zeros_output : (output_row_test pl b o ≡ true) × (pick_test pl (decode pl b) o ≡ true)
      × ((decode pl b).links.wire o ≡ Empty)
  unfolding output_row_test pick_test
  zeros_output = (also_of zeros_output_form zeros_output_test, rw zeros_choice, zeros_wire)

-- ---- a queue whose bytes behind its credit are zero
module _ (pl : Plan) (b : List ℕ) (q : Queue) (e : zeros (queue_row pl q + 1) 38 b ≡ true) (h : Exists pl q) where
  idle_byte : (k : ℕ) → k < 38 → get_or b (queue_row pl q + suc k) 0 ≡ 0
  idle_byte k l = zeros_byte (queue_row pl q + 1) 38 (queue_row pl q + suc k) b e (omega arith) (omega arith)

  -- it is empty, not marked, and its flag is down
  pub zeros_queue : (decode pl b).lines.queue q ≡ []
  unfolding decode
  zeros_queue =
      rw (exists_test_lem pl q h, idle_byte 2 (omega arith)) (packets_none places (queue_row pl q + first_place) b)

  pub zeros_flag : (decode pl b).flow.flag q ≡ false
  unfolding decode
  zeros_flag = rw (exists_test_lem pl q h, idle_byte 0 (omega arith))

  pub zeros_mark : (decode pl b).lines.handled q ≡ false
  unfolding decode
  zeros_mark = rw (exists_test_lem pl q h, idle_byte 1 (omega arith))

  zeros_form : queue_form (queue_row pl q) b ≡ true
  unfolding queue_form
  zeros_form =
      rw (idle_byte 0 (omega arith), idle_byte 1 (omega arith), idle_byte 2 (omega arith))
      (zeros_places places (queue_row pl q + first_place) b
      (zeros_part (queue_row pl q + 1) 38 (queue_row pl q + first_place) (packet_width * places) b e (omega arith)
      (omega arith)))

  module _ (c : get_or b (queue_row pl q) 0 ≡ capacity pl.head q) (w : on_wires pl q (decode pl b) ≡ 0) where
    credit_is : ((decode pl b).flow.credit q).0 ≡ capacity pl.head q
    unfolding decode
    credit_is = rw (exists_test_lem pl q h, add-zero (queue_row pl q)) c

    idle_passes : QueuePasses pl (decode pl b) q
    idle_passes =
        record {
          room = rw zeros_queue (le-leb 0 (capacity pl.head q) (omega arith));
          line = rw zeros_queue;
          lower = rw zeros_flag (or_right (not (is_phase (decode pl b).clock.phase Execute)));
          unraise = rw zeros_flag (or_right (fed pl q));
          mark = rw zeros_mark;
          account =
              rw (
                zeros_queue,
                zeros_flag,
                w,
                credit_is,
                eq-eqb (capacity pl.head q + 0 + 0 + 0) (capacity pl.head q) (omega arith),
              )
              (or_right (not (fed pl q)));
          unspend = rw (credit_is, eq-eqb (capacity pl.head q) (capacity pl.head q) refl) (or_right (fed pl q));
        }

    -- its row passes if its credit is its capacity and no wire brings it a packet
    row_passes : queue_row_test pl b q ≡ true
    unfolding queue_row_test
    row_passes = also_of zeros_form ((queue_passes pl (decode pl b) q).passes idle_passes)

pub zeros_row : (pl : Plan) (b : List ℕ) (q : Queue) → get_or b (queue_row pl q) 0 ≡ capacity pl.head q
    → zeros (queue_row pl q + 1) 38 b ≡ true → on_wires pl q (decode pl b) ≡ 0 → Exists pl q
    → (queue_row_test pl b q ≡ true) × ((decode pl b).lines.queue q ≡ [])
zeros_row pl b q c e w h = (row_passes pl b q e h c w, zeros_queue pl b q e h)

-- ---- all of them
sum_nothing : (n : ℕ) (f : ℕ → ℕ) → ((i : ℕ) → i < n → f i ≡ 0) → sum n f ≡ 0
unfolding sum
sum_nothing zero f h = refl
sum_nothing (suc n) f h = rw (sum_nothing n f (λ i l. h i (omega arith)), h n (omega arith))

module _ (pl : Plan) (b : List ℕ)
    (out : (o : Output) → Drives pl o → zeros (output_row pl o) output_width b ≡ true) where
  -- where every output is idle no wire brings a packet
  pub quiet_wires : (q : Queue) → on_wires pl q (decode pl b) ≡ 0
  unfolding on_wires
  quiet_wires q =
      sum_nothing (outputs pl) _
      (λ n l. ap (brings pl q (output_at pl n))
      (zeros_wire pl b (output_at pl n) (out (output_at pl n) (drives_at pl n l)) (drives_at pl n l)))

  -- and where every queue is too there is none at all
  pub quiet_total : ((q : Queue) → Exists pl q → zeros (queue_row pl q + 1) 38 b ≡ true) → (w : Packet → ℕ)
      → total pl w (decode pl b) ≡ 0
  unfolding total
  quiet_total idle w =
      let qs : sum (queues pl) (λ n. in_all w ((decode pl b).lines.queue (queue_at pl n))) ≡ 0 =
      sum_nothing (queues pl) _
      (λ n l. ap (in_all w)
      (zeros_queue pl b (queue_at pl n) (idle (queue_at pl n) (exists_at pl n l)) (exists_at pl n l))) in
      let ws : sum (outputs pl) (λ n. in_wire w ((decode pl b).links.wire (output_at pl n))) ≡ 0 =
      sum_nothing (outputs pl) _
      (λ n l. ap (in_wire w)
      (zeros_wire pl b (output_at pl n) (out (output_at pl n) (drives_at pl n l)) (drives_at pl n l))) in
      rw (qs, ws)
