-- The lengths of all queues and the bytes of all wires make the number of packets.
use mathlib.Core.Path.{◌≡◌, refl, sym, ap, ap₂, ◌∙◌, subst}
use mathlib.Core.List.{List, [], ◌∷◌, ◌++◌}
use Prim.Native.Nat.{ℕ, ◌+◌, ◌*◌, ◌≤◌, ◌<◌}
use native.Mathlib.Omega.{arith}
use native.Mathlib.Nat.{mul-le-mul}
use lib.ListN.{length, get_or}
use Rattle.packets.specs.declared.Packet.{Packet}
use Rattle.packets.specs.declared.Wire.{Wire}
use Rattle.packets.specs.declared.Wire.TheVariants.{Empty, Full}
use Rattle.packets.specs.declared.Answer.TheVariants.{Remains}
use Rattle.plan.specs.declared.Head.{Head}
use Rattle.plan.specs.Plan.{Plan}
use Rattle.plan_queues.specs.Queue.{queues, queue_at}
use Rattle.rules.specs.Outputs.{outputs, output_at}
use Rattle.rules.specs.State.{State}
use Rattle.rules.specs.Valid.{sum, in_all, in_wire, total}
use Rattle.rules.specs.Remaining.{packets, enough, remaining_in}
use Rattle.rules.specs.Calls.{of_remaining, remaining}
use Rattle.rules.proofs.Numbers.{exists_at, at_number}
use Rattle.rules.proofs.OutNumbers.{drives_at, at_output}
use Rattle.theory.proofs.Ground.Sums.{sum_same}
use Rattle.bytes_layout.specs.Rows.{stands_get}
use Rattle.bytes_layout.specs.Offsets.{queue_row, output_row, length_byte, wire_byte}
use Rattle.bytes_layout.specs.Codes.{choice_code}
use Rattle.bytes_layout.specs.Encode.{encode, wire_bytes, output_bytes, length_output}
use Rattle.bytes_layout.proofs.Standing.{output_stands}
use Rattle.bytes_layout.proofs.Readings.{length_at_lem}
use Rattle.bytes_steps.specs.Counts.{queue_count, output_count, outputs_from, queues_by, outputs_by, outputs_at_lem}
use Rattle.call_common.specs.Visits.{Ready, Visits}
use Rattle.call_common.proofs.Rows.{long}
use Rattle.call_common.proofs.Refuse.{passed, accepts}
use Rattle.call_remaining.specs.Counted.{apart, Counted}

-- each packet counts one
one_each : (l : List Packet) → length l ≡ in_all (λ (x : Packet). 1) l
one_each [] = refl
one_each (x ∷ l) = let e = one_each l in omega arith

module _ (pl : Plan) (s : State) (rest b : List ℕ) (e : b ≡ encode pl s rest) where
  -- the length byte of queue k's row
  queue_counts : (k : ℕ) → k < queues pl
      → get_or b (5 + 39 * k) 0 ≡ in_all (λ (x : Packet). 1) (s.lines.queue (queue_at pl k))
  unfolding queue_row
  queue_counts k l =
      ap (λ (n : ℕ). get_or b n 0) row ∙ length_at_lem pl s rest b e (queue_at pl k) (exists_at pl k l)
      ∙ one_each (s.lines.queue (queue_at pl k))
    where
      row : 5 + 39 * k ≡ queue_row pl (queue_at pl k) + length_byte
      row = let n = at_number pl k l in omega arith

  -- the wire byte of output k's row
  wire_counts : (k : ℕ) → k < outputs pl
      → get_or b (outputs_from pl.head + 7 * k) 0 ≡ in_wire (λ (x : Packet). 1) (s.links.wire (output_at pl k))
  unfolding output_row output_bytes
  wire_counts k l =
      ap (λ (n : ℕ). get_or b n 0) row
      ∙ stands_get (output_row pl (output_at pl k)) (output_bytes s (output_at pl k)) b
      (rw e (output_stands pl s rest (output_at pl k) (drives_at pl k l))) wire_byte some
      ∙ by (s.links.wire (output_at pl k))
    where
      row : outputs_from pl.head + 7 * k ≡ output_row pl (output_at pl k) + wire_byte
      row = let n = at_output pl k l in let o = outputs_at_lem pl in omega arith

      some : wire_byte < length (output_bytes s (output_at pl k))
      some = let n = length_output s (output_at pl k) in omega arith

      by : (w : Wire) → get_or (wire_bytes w ++ (choice_code (s.links.choice (output_at pl k)) ∷ [])) 0 0
          ≡ in_wire (λ (x : Packet). 1) w
      by Empty = refl
      by (Full x) = refl

  -- together
  counts_all : apart 5 39 (queue_count pl.head) b + apart (outputs_from pl.head) 7 (output_count pl.head) b
      ≡ packets pl s
  unfolding apart total
  counts_all =
      ap₂ ◌+◌ (ap (λ (n : ℕ). sum n (λ k. get_or b (5 + 39 * k) 0)) (sym (queues_by pl))
      ∙ sum_same (queues pl) (λ k. get_or b (5 + 39 * k) 0)
      (λ k. in_all (λ (x : Packet). 1) (s.lines.queue (queue_at pl k))) queue_counts)
      (ap (λ (n : ℕ). sum n (λ k. get_or b (outputs_from pl.head + 7 * k) 0)) (sym (outputs_by pl))
      ∙ sum_same (outputs pl) (λ k. get_or b (outputs_from pl.head + 7 * k) 0)
      (λ k. in_wire (λ (x : Packet). 1) (s.links.wire (output_at pl k))) wire_counts)

-- ---- as the code makes them
-- the bytes are there
module _ {h : Head} {b : List ℕ} (ready : Ready h b) where
  pub queues_inside : {row n : ℕ} → row ≡ 2 + 39 * 0 → n ≡ queue_count h → (k : ℕ) → k < n → row + 3 + 39 * k < length b
  queues_inside at all k l = omega (arith, long ready)

  pub wires_inside : {row n : ℕ} → row ≡ outputs_from h + 7 * 0 → n ≡ output_count h → (k : ℕ) → k < n
      → row + 7 * k < length b
  wires_inside at all k l = omega (arith, long ready)

-- and both sums are N
module _ {h : Head} {b : List ℕ} {row queued from carried : ℕ} (at : row ≡ 2 + 39 * 0) (all : queued ≡ queue_count h)
    (begins : from ≡ outputs_from h + 7 * 0) (outs : carried ≡ output_count h) where
  pub all_counted : {m n : ℕ} → m ≡ apart (row + 3) 39 queued b → n ≡ apart from 7 carried b → Counted h b (m + n)
  all_counted {m} {n} e f =
      record {
        is = λ pl k s rest g same.
            subst (λ (x : Head). m + n ≡ apart 5 39 (queue_count x) b + apart (outputs_from x) 7 (output_count x) b)
            (sym k)
            (ap₂ ◌+◌ (e ∙ ap₂ (λ (x y : ℕ). apart x 39 y b) first all)
            (f ∙ ap₂ (λ (x y : ℕ). apart x 7 y b) second outs))
            ∙ counts_all pl s rest b same;
      }
    where
      first : row + 3 ≡ 5
      first = omega arith

      second : from ≡ outputs_from h
      second = omega arith

-- ---- the answer
-- 256 × S × N is small enough for its word
pub rounds_few : {slots n : ℕ} → slots ≤ 32 → n ≤ 163200 → 256 * slots * n ≤ 4294967295
rounds_few {slots} {n} l m = let k : 256 * slots ≤ 8192 = omega arith in let z = mul-le-mul k m in omega arith

pub told : {h : Head} {b : List ℕ} {n slots : ℕ} → Counted h b n → slots ≡ h.slots
    → Visits h of_remaining b (Remains (record { packets = n; rounds = 256 * slots * n })) b
told {h} {b} {n} {slots} counted e =
    record {
      acts = λ pl k.
          accepts pl remaining b (λ s rest g same. passed)
          (λ s rest g same. answer pl k s (counted.is pl k s rest g same)) (λ s rest g same. same);
    }
  where
    answer : (pl : Plan) → pl.head ≡ h → (s : State) → n ≡ packets pl s
        → Remains (record { packets = n; rounds = 256 * slots * n }) ≡ Remains (remaining_in pl s)
    answer pl k s is =
        ap₂ (λ (x y : ℕ). Remains (record { packets = y; rounds = enough x y }))
        (e ∙ sym (ap (λ (x : Head). x.slots) k)) is
