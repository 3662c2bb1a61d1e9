-- Bytes whose rows all have their form are those of a state.
use mathlib.Core.Path.{◌≡◌, refl, sym, ap, ◌∙◌}
use mathlib.Core.Bool.{true}
use mathlib.Core.List.{List, [], ◌++◌}
use Prim.Native.Nat.{ℕ, zero, suc, ◌+◌, ◌*◌, ◌/◌, ◌%◌, ◌≤◌, ◌<◌}
use native.Mathlib.Omega.{arith}
use lib.ListN.{length, get_or}
use borrow.Author.Tests.{le-leb}
use Rattle.basis.specs.Choice.{also_of}
use Rattle.plan.specs.Plan.{Plan, A, R}
use Rattle.plan_queues.specs.Queue.{Queue, Exists, queues, queue_at}
use Rattle.plan_queues.specs.Feeds.{Output}
use Rattle.rules.specs.Outputs.{outputs, output_at}
use Rattle.rules.specs.Valid.{Drives}
use Rattle.rules.proofs.Numbers.{exists_at, at_number}
use Rattle.rules.proofs.OutNumbers.{drives_at, at_output}
use Rattle.bytes_layout.specs.Rows.{front}
use Rattle.bytes_layout.specs.Offsets.{phase_byte, queue_width, output_width, entry_width, router_entries, slot_room}
use Rattle.bytes_layout.specs.Offsets.{entries}
use Rattle.bytes_layout.specs.Offsets.{queues_at, outputs_at, allowances_at, table_at, size, queue_row, output_row}
use Rattle.bytes_layout.specs.Offsets.{allowance_row}
use Rattle.bytes_layout.specs.Offsets.{entry_row, connections_at, starts_width, pairs, starts_row, turns_at, turn_row}
use Rattle.bytes_layout.specs.Encode.{queue_bytes, output_bytes, allowance_bytes, entry_bytes, entry_of_number, header}
use Rattle.bytes_layout.specs.Encode.{queue_part}
use Rattle.bytes_layout.specs.Encode.{starts_bytes, turn_bytes, output_part, allowance_part, table_part}
use Rattle.bytes_layout.specs.Encode.{connection_part}
use Rattle.bytes_layout.specs.Encode.{turn_part, encode}
use Rattle.bytes_layout.specs.Encode.{length_queue, length_output, length_queues, length_outputs, length_allowances}
use Rattle.bytes_layout.specs.Encode.{length_table, length_connections, length_turns, length_encode}
use Rattle.bytes_layout.specs.Decode.{decode}
use Rattle.bytes_layout.specs.Canonical.{canonical}
use Rattle.bytes_layout.proofs.Numbering.{entry_named}
use Rattle.bytes_layout.proofs.StateBytes.{bytes_same}
use Rattle.check_rule.specs.Forms.{queue_form, output_form, side_form, pair_row, starts_form}
use Rattle.check_rule.proofs.Agree.{Agrees, agrees_at, agrees_none, agrees_append, agrees_all, agrees_front}
use Rattle.check_rule.proofs.Bytes.{phase_byte_lem}
use Rattle.check_rule.proofs.Rows.{queue_agrees, output_agrees, allowance_agrees, entry_agrees, starts_agrees}
use Rattle.check_rule.proofs.Rows.{turn_agrees}

-- what of the bytes themselves must hold
pub record Formed (pl : Plan) (b : List ℕ) : Type 0 where
  pub long : size pl ≤ length b
  pub phase : get_or b phase_byte 0 ≤ 2
  pub queue : (q : Queue) → Exists pl q → queue_form (queue_row pl q) b ≡ true
  pub output : (o : Output) → Drives pl o → output_form (output_row pl o) b ≡ true
  pub side : (r o : ℕ) → r < R pl → o < 4 → side_form pl r o b ≡ true
  pub starts : (n : ℕ) → n < pairs pl → starts_form pl b n ≡ true

module _ (pl : Plan) (b : List ℕ) (f : Formed pl b) where
  header_agrees : Agrees 0 (header (decode pl b)) b
  unfolding decode
  header_agrees zero l = sym (phase_byte_lem (get_or b phase_byte 0) f.phase)
  header_agrees (suc zero) l = refl
  header_agrees (suc (suc k)) l = absurd (omega arith)

  queues_agree : Agrees queues_at (queue_part pl (decode pl b)) b
  unfolding queue_row
  queues_agree =
      agrees_all queue_width (queues pl) queues_at (λ n. queue_bytes (decode pl b) (queue_at pl n)) b
      (λ n. length_queue (decode pl b) (queue_at pl n))
      (λ n h. let q : Queue = queue_at pl n in
      agrees_at (queue_row pl q) (queues_at + queue_width * n) (queue_bytes (decode pl b) q) b (rw (at_number pl n h))
      (queue_agrees pl b q (exists_at pl n h) (f.queue q (exists_at pl n h))))

  outputs_agree : Agrees (outputs_at pl) (output_part pl (decode pl b)) b
  unfolding output_row
  outputs_agree =
      agrees_all output_width (outputs pl) (outputs_at pl) (λ n. output_bytes (decode pl b) (output_at pl n)) b
      (λ n. length_output (decode pl b) (output_at pl n))
      (λ n h. let o : Output = output_at pl n in
      agrees_at (output_row pl o) (outputs_at pl + output_width * n) (output_bytes (decode pl b) o) b
      (rw (at_output pl n h))
      (output_agrees pl b o (drives_at pl n h) (f.output o (drives_at pl n h))))

  allowances_agree : Agrees (allowances_at pl) (allowance_part pl (decode pl b)) b
  unfolding allowance_row
  allowances_agree =
      agrees_all 1 (A pl) (allowances_at pl) (allowance_bytes (decode pl b)) b (λ n. refl)
      (λ n h. agrees_at (allowance_row pl n) (allowances_at pl + 1 * n) (allowance_bytes (decode pl b) n) b
      (omega arith)
      (allowance_agrees pl b n h))

  table_agrees : Agrees (table_at pl) (table_part pl (decode pl b)) b
  unfolding entry_row
  table_agrees =
      agrees_all entry_width (entries pl) (table_at pl) (λ n. entry_bytes (entry_of_number (decode pl b) n)) b
      (λ n. refl)
      (λ n h. let e = entry_named pl n h in
      agrees_at (entry_row pl (n / router_entries) (n % router_entries / slot_room) (n % slot_room))
      (table_at pl + entry_width * n) (entry_bytes (entry_of_number (decode pl b) n)) b (rw e.3)
      (entry_agrees pl b (n / router_entries) (n % router_entries / slot_room) (n % slot_room) e.0 e.1 e.2
      (f.side (n / router_entries) (n % router_entries / slot_room) e.0 e.1)))

  connections_agree : Agrees (connections_at pl) (connection_part pl (decode pl b)) b
  unfolding starts_row
  connections_agree =
      agrees_all starts_width (pairs pl) (connections_at pl) (starts_bytes (decode pl b)) b (λ n. refl)
      (λ n h. agrees_at (pair_row pl n) (connections_at pl + starts_width * n) (starts_bytes (decode pl b) n) b
      (omega arith) (starts_agrees pl b n (f.starts n h)))

  turns_agree : Agrees (turns_at pl) (turn_part pl (decode pl b)) b
  unfolding turn_row
  turns_agree =
      agrees_all 1 (outputs pl) (turns_at pl) (λ n. turn_bytes (decode pl b) (output_at pl n)) b (λ n. refl)
      (λ n h. let o : Output = output_at pl n in
      agrees_at (turn_row pl o) (turns_at pl + 1 * n) (turn_bytes (decode pl b) o) b
      (let e = at_output pl n h in omega arith) (turn_agrees pl b o (drives_at pl n h)))

  -- the parts, one behind the other
  abbrev sixth : List ℕ
  sixth = turn_part pl (decode pl b) ++ []

  abbrev fifth : List ℕ
  fifth = connection_part pl (decode pl b) ++ sixth

  abbrev fourth : List ℕ
  fourth = table_part pl (decode pl b) ++ fifth

  abbrev third : List ℕ
  third = allowance_part pl (decode pl b) ++ fourth

  abbrev second : List ℕ
  second = output_part pl (decode pl b) ++ third

  from_turns : Agrees (turns_at pl) sixth b
  unfolding size
  from_turns =
      agrees_append (turns_at pl) (size pl) (turn_part pl (decode pl b)) [] b
      (let l = length_turns pl (decode pl b) in omega arith) turns_agree (agrees_none (size pl) b)

  from_connections : Agrees (connections_at pl) fifth b
  from_connections =
      agrees_append (connections_at pl) (turns_at pl) (connection_part pl (decode pl b)) sixth b
      (rw (length_connections pl (decode pl b))) connections_agree from_turns

  from_table : Agrees (table_at pl) fourth b
  from_table =
      agrees_append (table_at pl) (connections_at pl) (table_part pl (decode pl b)) fifth b
      (rw (length_table pl (decode pl b))) table_agrees from_connections

  from_allowances : Agrees (allowances_at pl) third b
  from_allowances =
      agrees_append (allowances_at pl) (table_at pl) (allowance_part pl (decode pl b)) fourth b
      (let l = length_allowances pl (decode pl b) in omega arith) allowances_agree from_table

  from_outputs : Agrees (outputs_at pl) second b
  from_outputs =
      agrees_append (outputs_at pl) (allowances_at pl) (output_part pl (decode pl b)) third b
      (rw (length_outputs pl (decode pl b))) outputs_agree from_allowances

  from_queues : Agrees queues_at (queue_part pl (decode pl b) ++ second) b
  from_queues =
      agrees_append queues_at (outputs_at pl) (queue_part pl (decode pl b)) second b
      (rw (length_queues pl (decode pl b)))
      queues_agree from_outputs

  state_agrees : Agrees 0 (encode pl (decode pl b) []) b
  unfolding encode
  state_agrees =
      agrees_append 0 queues_at (header (decode pl b)) (queue_part pl (decode pl b) ++ second) b refl header_agrees
      from_queues

  -- so they are those of the state that they tell
  pub formed_canonical : canonical pl b ≡ true
  unfolding canonical
  formed_canonical =
      let n = length_encode pl (decode pl b) in
      let g = f.long in
      let e : front (size pl) b ≡ encode pl (decode pl b) [] =
      ap (λ k. front k b) (sym n) ∙ agrees_front (encode pl (decode pl b) []) b (omega arith) state_agrees in
      also_of (le-leb (size pl) (length b) f.long) (rw e (bytes_same (encode pl (decode pl b) [])))
