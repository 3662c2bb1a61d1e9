-- READ place by place: the step of each output and of each queue, what each needs of the state, and what the code does
-- of it on bytes.
use Rattle.std.specs.Prelude.{◌≡◌, true, List, ℕ, ◌+◌, ◌*◌, ◌≤◌, ◌<◌, length, get_or}
use Rattle.std.proofs.Math.Option.{some}
use Rattle.basis.specs.Fold.{up_to}
use Rattle.packets.specs.declared.Packet.{Packet}
use Rattle.packets.specs.declared.Wire.TheVariants.{Full}
use Rattle.plan.specs.Head.{InRange}
use Rattle.plan.specs.Plan.{Plan, A, P}
use Rattle.plan_queues.specs.Queue.{Queue, Exists, queues, queue_at}
use Rattle.plan_queues.specs.Feeds.{Output, to_unit, came_in}
use Rattle.plan_facts.specs.Wired.{Wired}
use Rattle.rules.specs.Outputs.{next_by, output_at}
use Rattle.rules.specs.State.{State}
use Rattle.rules.specs.Read.{deliver, settle}
use Rattle.theory.specs.Invariant.{Core}
use Rattle.bytes_layout.specs.Offsets.{places}
use Rattle.bytes_steps.specs.Acts.{Holds, Steps}
use Rattle.phase_read.specs.Awaiting.{Awaits}

-- ---- the wire of an output
-- its packet joins its queue
abbrev pub delivery : Plan → ℕ → State → State
delivery pl m = deliver pl (output_at pl m)

-- a packet on a wire: its pair is the plan's, its next queue has a place for it, and at a unit that one alone lacks a
-- credit
pub record Joins (pl : Plan) (s : State) (o : Output) (x : Packet) : Type 0 where
  pub active : x.active < A pl
  pub passive : x.passive < P pl
  pub queue : Queue
  pub next : next_by pl o x ≡ some queue
  pub has : Exists pl queue
  pub room : length (s.lines.queue queue) < places
  pub unit : (r : ℕ) → o ≡ to_unit r → Awaits pl s r (came_in pl x.active x.passive r)

-- what a delivery needs
pub record Arriving (pl : Plan) (m : ℕ) (s : State) : Type 0 where
  pub joins : (x : Packet) → s.links.wire (output_at pl m) ≡ Full x → Joins pl s (output_at pl m) x

-- ---- the flag of a queue
-- if it is raised, it becomes a credit
abbrev pub settling : Plan → ℕ → State → State
settling pl n = settle (queue_at pl n)

-- what a settling needs: a raised flag's queue lacks a credit
pub record Owed (pl : Plan) (n : ℕ) (s : State) : Type 0 where
  pub lacks : s.flow.flag (queue_at pl n) ≡ true → (s.flow.credit (queue_at pl n)).0 < places

-- ---- the flags do not depend on the plan's tables: what the code is told of the plan, and what it promises
-- the bytes of a state of some plan with a queue n
pub record Flagged (n : ℕ) (b : List ℕ) : Type 0 where
  pub plan : Plan
  pub below : n < queues plan
  pub holds : Holds plan (Owed plan n) b

-- queue n is settled, whatever the plan
pub record Settles (n : ℕ) (b c : List ℕ) : Type 0 where
  pub steps : (pl : Plan) → n < queues pl → Steps pl (Owed pl n) (settling pl n) b c

-- the bytes of a whole state of some plan with n queues at least
pub record Whole (n : ℕ) (b : List ℕ) : Type 0 where
  pub plan : Plan
  pub range : InRange plan.head
  pub wired : Wired plan
  pub has : n ≤ queues plan
  pub holds : Holds plan (Core plan) b

-- the queues below n are settled, whatever the plan that has them
pub record SettlesTo (n : ℕ) (b c : List ℕ) : Type 0 where
  pub steps : (pl : Plan) → InRange pl.head → Wired pl → n ≤ queues pl
      → Steps pl (Core pl) (up_to (settling pl) n) b c

-- the flags of the queues below n are down
pub record Down (n : ℕ) (b : List ℕ) : Type 0 where
  pub down : (k : ℕ) → k < n → get_or b (39 * k + 3) 0 ≡ 0
