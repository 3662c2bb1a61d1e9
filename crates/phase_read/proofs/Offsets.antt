-- The rows that the code computes are the plan's; they lie inside the bytes of a state; and each store into one gives
-- the bytes of the state with that part changed.
use mathlib.Core.Path.{◌≡◌, refl, sym, ap, ◌∙◌}
use mathlib.Core.List.{List}
use mathlib.Core.Option.{Option, some}
use Prim.Native.Nat.{ℕ, ◌+◌, ◌*◌, ◌≤◌, ◌<◌}
use native.Mathlib.Omega.{arith}
use lib.ListN.{length}
use Rattle.plan.specs.declared.Head.{Head}
use Rattle.plan.specs.Head.{InRange, Counts}
use Rattle.plan.specs.Plan.{Plan}
use Rattle.plan.specs.Tables.{table_plan}
use Rattle.plan_queues.specs.Queue.{Queue, Exists, number, queues, queue_at}
use Rattle.rules.specs.Outputs.{outputs, output_at}
use Rattle.rules.specs.State.{State}
use Rattle.rules.proofs.Numbers.{at_number}
use Rattle.rules.proofs.OutNumbers.{drives_at, at_output}
use Rattle.bytes_layout.specs.Named.{exists_test_lem}
use Rattle.bytes_layout.specs.Offsets.{credit_byte, queue_row, output_row, turn_row, size}
use Rattle.bytes_layout.proofs.Readings.{length_bytes, queue_inside, output_inside, turn_inside}
use Rattle.bytes_steps.specs.Acts.{Holds}
use Rattle.bytes_steps.specs.Counts.{queue_count, output_count, outputs_from, turns_from, queues_by, outputs_at_lem}
use Rattle.bytes_steps.specs.Counts.{turns_at_lem}
use Rattle.next_queue.specs.Next.{number_or}

-- the head of the plan that tables give
pub table_head : (h : Head) (routes : List (List ℕ)) (joints : List ℕ) → (table_plan h routes joints).head ≡ h
unfolding table_plan
table_head h routes joints = refl

-- a head in range has counts of at most 16
pub range_counts : {h : Head} → InRange h → Counts h
range_counts r = (r.routers.1, r.actives.1, r.passives.1)

module _ (pl : Plan) {h : Head} (e : pl.head ≡ h) where
  pub outputs_of : outputs pl ≡ output_count h
  outputs_of = rw (← e)

  pub queues_of : queues pl ≡ queue_count h
  queues_of = rw (← e) (queues_by pl)

  -- the row of an output's number
  pub output_row_lem : (m i : ℕ) → m < output_count h → i ≡ outputs_from h + 7 * m → i ≡ output_row pl (output_at pl m)
  unfolding output_row
  output_row_lem m i l g =
      let n = at_output pl m (rw (← e) at l) in
      let a = outputs_at_lem pl in
      let b : i ≡ outputs_from pl.head + 7 * m = rw e g in
      omega arith

  -- the byte of the last sender that an output served
  pub turn_row_lem : (m i : ℕ) → m < output_count h → i ≡ turns_from h + m → i ≡ turn_row pl (output_at pl m)
  unfolding turn_row
  turn_row_lem m i l g =
      let n = at_output pl m (rw (← e) at l) in
      let a = turns_at_lem pl in
      let b : i ≡ turns_from pl.head + m = rw e g in
      omega arith

-- a row begins with its credit
pub first : (i : ℕ) → i ≡ i + credit_byte
first i = omega arith

-- the row of a queue, and of a queue's number
module _ (pl : Plan) where
  pub queue_row_lem : (q : Queue) (n i : ℕ) → n ≡ number pl q → i ≡ 2 + 39 * n → i ≡ queue_row pl q
  unfolding queue_row
  queue_row_lem q n i e f = omega arith

  pub row_of : (n i : ℕ) → n < queues pl → i ≡ 2 + 39 * n → i ≡ queue_row pl (queue_at pl n)
  row_of n i l e = queue_row_lem (queue_at pl n) n i (sym (at_number pl n l)) e

  -- the number of a queue that the plan has
  pub number_or_lem : (y : Option Queue) (q : Queue) → y ≡ some q → Exists pl q → number_or pl y ≡ number pl q
  number_or_lem y q e h = ap (number_or pl) e ∙ rw (exists_test_lem pl q h)

  -- the rows lie inside
  module _ {I : State → Type 0} {b : List ℕ} (g : Holds pl I b) where
    long : size pl ≤ length b
    long = let l = ap length g.same ∙ length_bytes pl g.state g.rest in omega arith

    pub queue_within : (q : Queue) → Exists pl q → (i : ℕ) → i ≡ queue_row pl q → i + 39 ≤ length b
    queue_within q h i e = let l = long in let k = queue_inside pl q h in omega arith

    pub output_within : (m : ℕ) → m < outputs pl → (i : ℕ) → i ≡ output_row pl (output_at pl m) → i + 7 ≤ length b
    output_within m l i e = let k = long in let n = output_inside pl (output_at pl m) (drives_at pl m l) in omega arith

    pub turn_within : (m : ℕ) → m < outputs pl → (i : ℕ) → i ≡ turn_row pl (output_at pl m) → i < length b
    turn_within m l i e = let k = long in let n = turn_inside pl (output_at pl m) (drives_at pl m l) in omega arith

    -- and so does the header
    pub header_within : 2 ≤ length b
    unfolding size
    header_within = let l = long in omega arith
