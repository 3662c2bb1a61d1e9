-- The bytes once a queue's head has left; and what good states keep small, so that the code's sums fit.
use mathlib.Core.Path.{◌≡◌, ap, ap₂, ◌∙◌}
use mathlib.Core.Bool.{true}
use mathlib.Core.List.{List}
use Prim.Native.Nat.{ℕ, ◌+◌, ◌≤◌, ◌<◌}
use native.Mathlib.Nat.{min-le_left}
use native.Mathlib.Omega.{arith}
use lib.ListN.{length, set}
use Rattle.plan.specs.declared.Head.{Head}
use Rattle.plan.specs.Head.{InRange}
use Rattle.plan.specs.Plan.{Plan, A}
use Rattle.plan_queues.specs.Queue.{Queue, Exists}
use Rattle.rules.specs.State.{State, with_queue, with_flag}
use Rattle.rules.specs.Ruled.{Good}
use Rattle.bytes_layout.specs.Offsets.{flag_byte, queue_row}
use Rattle.bytes_layout.specs.Codes.{flag_code}
use Rattle.bytes_layout.specs.Encode.{encode}
use Rattle.bytes_layout.specs.Decode.{length_at, capacity_most}
use Rattle.bytes_layout.specs.Updates.{pop_at}
use Rattle.bytes_layout.proofs.Updates.{put_flag, pop_queue}
use Rattle.call_common.specs.Visits.{Ready, taken_at}
use Rattle.call_common.proofs.Tests.{Headed, queued}

-- ---- what is small in a good state
module _ (pl : Plan) (range : InRange pl.head) (s : State) (good : Good pl s) where
  pub few : (q : Queue) → Exists pl q → length (s.lines.queue q) ≤ 7
  few q there =
      let c = good.valid.capacities q there in let m = capacity_most pl.head q range in omega arith

  pub allowance_few : (a : ℕ) → a < A pl → s.flow.allowance a ≤ 7
  allowance_few a l =
      let e = good.valid.allowances a l in
      let m = min-le_left pl.head.aout.0 pl.head.ain.0 in
      let k = range.aout.1 in
      omega arith

-- ---- a queue's head leaves and its flag rises
module _ (pl : Plan) (s : State) (rest b : List ℕ) (same : b ≡ encode pl s rest) where
  pub taken : (q : Queue) → Exists pl q → (row : ℕ) → row ≡ queue_row pl q → (l : Headed (s.lines.queue q))
      → length (s.lines.queue q) ≤ 7
      → taken_at row b ≡ encode pl (with_flag q true (with_queue q l.behind s)) rest
  unfolding taken_at
  taken q there row at l small =
      ap₂ (λ (i : ℕ) (c : List ℕ). set (pop_at i c) (i + flag_byte) (flag_code true)) at same
      ∙ ap (λ (c : List ℕ). set c (queue_row pl q + flag_byte) (flag_code true))
      (pop_queue pl s rest q there l.first l.behind l.line small)
      ∙ put_flag pl (with_queue q l.behind s) rest q there true

-- ---- of the bytes that a call is given
module _ {h : Head} {b : List ℕ} (range : InRange h) (ready : Ready h b) where
  pub in_range : InRange ready.plan.head
  in_range = rw ready.head range

  pub in_few : (q : Queue) → Exists ready.plan q → (row : ℕ) → row ≡ queue_row ready.plan q → length_at row b ≤ 7
  in_few q there row at =
      let e = queued ready.plan ready.held.state ready.held.rest b ready.held.same q there row at in
      omega (arith, few ready.plan in_range ready.held.state ready.held.fit q there)
