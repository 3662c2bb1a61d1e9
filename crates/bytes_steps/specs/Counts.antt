-- The layout's offsets by a plan's head alone, as the code computes them.
use Rattle.std.specs.Prelude.{◌≡◌, ℕ, ◌+◌, ◌*◌}
use native.Mathlib.Omega.{arith}
use Rattle.plan.specs.declared.Head.{Head}
use Rattle.plan.specs.Head.{destinations}
use Rattle.plan.specs.Plan.{Plan}
use Rattle.plan_queues.specs.Queue.{queues}
use Rattle.rules.specs.Outputs.{outputs}
use Rattle.bytes_layout.specs.Offsets.{size, outputs_at, allowances_at, table_at, connections_at, turns_at}

abbrev pub queue_count : Head → ℕ
queue_count h = 2 * destinations h + 28 * h.routers

abbrev pub output_count : Head → ℕ
output_count h = destinations h + 6 * h.routers

abbrev pub outputs_from : Head → ℕ
outputs_from h = 2 + 39 * queue_count h

abbrev pub allowances_from : Head → ℕ
allowances_from h = outputs_from h + 7 * output_count h

abbrev pub table_from : Head → ℕ
table_from h = allowances_from h + h.actives

abbrev pub connections_from : Head → ℕ
connections_from h = table_from h + 256 * h.routers

abbrev pub turns_from : Head → ℕ
turns_from h = connections_from h + 64 * h.actives

abbrev pub state_size : Head → ℕ
state_size h = turns_from h + output_count h

-- ---- they are the plan's
module _ (pl : Plan) where
  pub queues_by : queues pl ≡ queue_count pl.head
  unfolding queues
  queues_by = omega arith

  pub outputs_by : outputs pl ≡ output_count pl.head
  outputs_by = omega arith

  pub outputs_at_lem : outputs_at pl ≡ outputs_from pl.head
  unfolding queues
  outputs_at_lem = omega arith

  pub allowances_at_lem : allowances_at pl ≡ allowances_from pl.head
  unfolding queues
  allowances_at_lem = omega arith

  pub table_at_lem : table_at pl ≡ table_from pl.head
  unfolding queues
  table_at_lem = omega arith

  pub connections_at_lem : connections_at pl ≡ connections_from pl.head
  unfolding queues
  connections_at_lem = omega arith

  pub turns_at_lem : turns_at pl ≡ turns_from pl.head
  unfolding queues
  turns_at_lem = omega arith

  pub size_by : size pl ≡ state_size pl.head
  unfolding queues size
  size_by = omega arith
