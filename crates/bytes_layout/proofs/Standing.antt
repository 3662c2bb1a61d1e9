-- Where the rows of a state stand in its bytes: each at the offset of its queue, output, active, entry or pair; what
-- an output remembers at an offset of its own.
use mathlib.Core.Path.{◌≡◌, refl, subst}
use mathlib.Core.List.{List, ◌++◌}
use Prim.Native.Nat.{ℕ, ◌+◌, ◌*◌, ◌/◌, ◌%◌, ◌<◌}
use native.Mathlib.Omega.{arith}
use Rattle.packets.specs.declared.Entry.{Entry}
use Rattle.plan.specs.Plan.{Plan, A, R}
use Rattle.plan_queues.specs.Queue.{Queue, Exists, number, queues, queue_at}
use Rattle.plan_queues.specs.Feeds.{Output}
use Rattle.plan_journeys.proofs.Numbers.{queue_at_lem, number_below}
use Rattle.rules.specs.Outputs.{outputs, output_at, output_number}
use Rattle.rules.specs.State.{State}
use Rattle.rules.specs.Valid.{Drives}
use Rattle.rules.proofs.OutNumbers.{output_at_lem, output_below}
use Rattle.bytes_layout.specs.Rows.{RowStands, stands_whole, stands_left, stands_right, stands_row}
use Rattle.bytes_layout.specs.Offsets.{queue_width, output_width, entry_width, router_entries, slot_room, entry_index}
use Rattle.bytes_layout.specs.Offsets.{entries, queues_at, outputs_at, allowances_at, table_at, queue_row, output_row}
use Rattle.bytes_layout.specs.Offsets.{allowance_row, entry_row, passive_room, starts_width, pairs, pair_index}
use Rattle.bytes_layout.specs.Offsets.{connections_at, starts_row, turns_at, turn_row}
use Rattle.bytes_layout.specs.Encode.{queue_bytes, output_bytes, allowance_bytes, entry_bytes, entry_of_number}
use Rattle.bytes_layout.specs.Encode.{word_bytes}
use Rattle.bytes_layout.specs.Encode.{starts_of, starts_bytes, header, queue_part, output_part, allowance_part}
use Rattle.bytes_layout.specs.Encode.{table_part}
use Rattle.bytes_layout.specs.Encode.{connection_part, turn_bytes, turn_part, encode, length_queue, length_output}
use Rattle.bytes_layout.specs.Encode.{length_queues, length_outputs, length_allowances, length_table}
use Rattle.bytes_layout.specs.Encode.{length_connections}

module _ (pl : Plan) (s : State) (rest : List ℕ) where
  abbrev bytes : List ℕ
  bytes = encode pl s rest

  -- what stands behind the connections, behind the table, behind the allowances, behind the outputs, behind the queues
  abbrev sixth : List ℕ
  sixth = turn_part pl s ++ rest

  abbrev fifth : List ℕ
  fifth = connection_part pl s ++ sixth

  abbrev fourth : List ℕ
  fourth = table_part pl s ++ fifth

  abbrev third : List ℕ
  third = allowance_part pl s ++ fourth

  abbrev second : List ℕ
  second = output_part pl s ++ third

  from_queues : RowStands queues_at (queue_part pl s ++ second) bytes
  unfolding encode
  from_queues = stands_right 0 queues_at (header s) (queue_part pl s ++ second) bytes refl (stands_whole bytes)

  from_outputs : RowStands (outputs_at pl) second bytes
  from_outputs =
      stands_right queues_at (outputs_at pl) (queue_part pl s) second bytes (rw (length_queues pl s)) from_queues

  from_allowances : RowStands (allowances_at pl) third bytes
  from_allowances = stands_right (outputs_at pl) (allowances_at pl) (output_part pl s) third bytes
      (rw (length_outputs pl s)) from_outputs

  from_table : RowStands (table_at pl) fourth bytes
  from_table = stands_right (allowances_at pl) (table_at pl) (allowance_part pl s) fourth bytes
      (let l = length_allowances pl s in omega arith) from_allowances

  from_connections : RowStands (connections_at pl) fifth bytes
  from_connections =
      stands_right (table_at pl) (connections_at pl) (table_part pl s) fifth bytes (rw (length_table pl s)) from_table

  from_turns : RowStands (turns_at pl) sixth bytes
  from_turns = stands_right (connections_at pl) (turns_at pl) (connection_part pl s) sixth bytes
      (rw (length_connections pl s)) from_connections

  -- a queue's row stands at the queue's offset
  pub queue_stands : (q : Queue) → Exists pl q → RowStands (queue_row pl q) (queue_bytes s q) bytes
  unfolding queue_row
  queue_stands q h =
      subst (λ (x : Queue). RowStands (queue_row pl q) (queue_bytes s x) bytes) (queue_at_lem pl q h)
      (stands_row queue_width (queues pl) queues_at (λ n. queue_bytes s (queue_at pl n)) bytes
      (λ n. length_queue s (queue_at pl n))
      (stands_left queues_at (queue_part pl s) second bytes from_queues) (number pl q) (number_below pl q h))

  -- an output's row at the output's
  pub output_stands : (o : Output) → Drives pl o → RowStands (output_row pl o) (output_bytes s o) bytes
  unfolding output_row
  output_stands o h =
      subst (λ (x : Output). RowStands (output_row pl o) (output_bytes s x) bytes) (output_at_lem pl o h)
      (stands_row output_width (outputs pl) (outputs_at pl) (λ n. output_bytes s (output_at pl n)) bytes
      (λ n. length_output s (output_at pl n))
      (stands_left (outputs_at pl) (output_part pl s) third bytes from_outputs) (output_number pl o)
      (output_below pl o h))

  -- an active's allowance at the active's
  pub allowance_stands : (a : ℕ) → a < A pl → RowStands (allowance_row pl a) (allowance_bytes s a) bytes
  unfolding allowance_row
  allowance_stands a h =
      let e : allowances_at pl + 1 * a ≡ allowances_at pl + a = omega arith in
      subst (λ (i : ℕ). RowStands i (allowance_bytes s a) bytes) e
      (stands_row 1 (A pl) (allowances_at pl) (allowance_bytes s) bytes (λ n. refl)
      (stands_left (allowances_at pl) (allowance_part pl s) fourth bytes from_allowances) a h)

  -- an entry at the entry's, also past the plan's slots
  pub entry_stands : (r o t : ℕ) → r < R pl → o < 4 → t < slot_room
      → RowStands (entry_row pl r o t) (entry_bytes (s.table r o t)) bytes
  unfolding entry_row
  entry_stands r o t hr ho ht =
      let a : entry_index r o t / router_entries ≡ r = omega arith in
      let c : entry_index r o t % router_entries / slot_room ≡ o = omega arith in
      let d : entry_index r o t % slot_room ≡ t = omega arith in
      let e : entry_of_number s (entry_index r o t) ≡ s.table r o t = λ i. s.table (a i) (c i) (d i) in
      subst (λ (x : Entry). RowStands (entry_row pl r o t) (entry_bytes x) bytes) e
      (stands_row entry_width (entries pl) (table_at pl) (λ n. entry_bytes (entry_of_number s n)) bytes (λ n. refl)
      (stands_left (table_at pl) (table_part pl s) fifth bytes from_table) (entry_index r o t) (omega arith))

  -- the start slots of a pair's accepted connections at the pair's, also past the plan's passives
  pub starts_stands : (a p : ℕ) → a < A pl → p < passive_room
      → RowStands (starts_row pl a p) (word_bytes (starts_of s a p)) bytes
  unfolding starts_row
  starts_stands a p ha hp =
      let c : pair_index a p / passive_room ≡ a = omega arith in
      let d : pair_index a p % passive_room ≡ p = omega arith in
      let e : starts_bytes s (pair_index a p) ≡ word_bytes (starts_of s a p) = λ i. word_bytes (starts_of s (c i) (d i))
      in
      subst (λ (x : List ℕ). RowStands (starts_row pl a p) x bytes) e
      (stands_row starts_width (pairs pl) (connections_at pl) (starts_bytes s) bytes (λ n. refl)
      (stands_left (connections_at pl) (connection_part pl s) sixth bytes from_connections) (pair_index a p)
      (omega arith))

  -- the last sender that an output served at the output's
  pub turn_stands : (o : Output) → Drives pl o → RowStands (turn_row pl o) (turn_bytes s o) bytes
  unfolding turn_row
  turn_stands o h =
      let e : turns_at pl + 1 * output_number pl o ≡ turns_at pl + output_number pl o = omega arith in
      subst (λ (x : Output). RowStands (turn_row pl o) (turn_bytes s x) bytes) (output_at_lem pl o h)
      (subst (λ (i : ℕ). RowStands i (turn_bytes s (output_at pl (output_number pl o))) bytes) e
      (stands_row 1 (outputs pl) (turns_at pl) (λ n. turn_bytes s (output_at pl n)) bytes (λ n. refl)
      (stands_left (turns_at pl) (turn_part pl s) rest bytes from_turns) (output_number pl o) (output_below pl o h)))
