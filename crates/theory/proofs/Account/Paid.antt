-- The credits' part of the core, and how it is shown of a step: the account of each queue that a wire feeds stays, and
-- no other queue's credit or flag changes.
use mathlib.Core.Path.{◌≡◌, refl, sym, ap, ◌∙◌}
use mathlib.Core.Logic.{◌⊎◌, inl, inr, ◌≢◌}
use mathlib.Core.Bool.{Bool, true, false}
use mathlib.Core.List.{List, [], ◌∷◌, ◌++◌}
use mathlib.Core.Option.{some}
use Prim.Native.Nat.{ℕ, ◌+◌, ◌≤◌, ◌<◌}
use native.Mathlib.Omega.{arith}
use lib.ListN.{length, length-append}
use Rattle.basis.specs.Choice.{not_both}
use Rattle.kinds.specs.declared.Slot.{Slot}
use Rattle.packets.specs.declared.Packet.{Packet}
use Rattle.packets.specs.declared.Wire.TheVariants.{Empty}
use Rattle.packets.specs.declared.Phase.{Phase}
use Rattle.plan.specs.Plan.{Plan}
use Rattle.plan_queues.specs.Queue.{Queue, Exists}
use Rattle.plan_queues.specs.Feeds.{Output, heading_of}
use Rattle.plan_facts.specs.Wired.{Wired}
use Rattle.rules.specs.Capacity.{capacity}
use Rattle.rules.specs.Store.{put, same_queue}
use Rattle.rules.specs.Outputs.{next_by, outputs, output_at}
use Rattle.rules.specs.State.{State, blank, start, with_phase, with_slot, with_connection, with_queue, with_flag, join}
use Rattle.rules.specs.Valid.{Drives, bit, brings, on_wires, fed}
use Rattle.theory.proofs.Ground.Sums.{sum_nought}
use Rattle.theory.proofs.Ground.Cells.{queue_here, queue_away, queue_or, cell_sum, fed_apart}
use Rattle.theory.specs.Invariant.{OutCapacities, OutFlags, OutCredits, Credits, account, Core}
use Rattle.theory.proofs.Places.Feeders.{fed_by, feeder_fed}

-- the four parts of the core that speak of credits, room and flags
pub record Paid (pl : Plan) (s : State) : Type 0 where
  pub credits : Credits pl s
  pub out_credits : OutCredits pl s
  pub out_capacities : OutCapacities pl s
  pub out_flags : OutFlags pl s

-- the core has them
pub paid_of : {pl : Plan} {s : State} → Core pl s → Paid pl s
paid_of c =
    record {
      credits = c.credits;
      out_credits = c.out_credits;
      out_capacities = c.out_capacities;
      out_flags = c.out_flags;
    }

-- a fed queue's account stays over a step
abbrev pub SameAccounts : Plan → State → State → Type 0
SameAccounts pl s t = (q : Queue) → fed pl q ≡ true → account pl q t ≡ account pl q s

-- the credit and flag of a queue that no wire feeds stay over a step
abbrev pub Spared : Plan → State → State → Type 0
Spared pl s t =
    (q : Queue) → fed pl q ≡ false → (t.flow.credit q ≡ s.flow.credit q) × (t.flow.flag q ≡ s.flow.flag q)

-- so the step keeps the four parts, if no queue that no wire feeds is over capacity after it
pub paid_by : {pl : Plan} (s t : State) → Paid pl s → SameAccounts pl s t → Spared pl s t → OutCapacities pl t
    → Paid pl t
paid_by s t c k p r =
    record {
      credits = λ q h f. k q f ∙ c.credits q h f;
      out_credits = λ q h f. rw (p q f).0 (c.out_credits q h f);
      out_capacities = r;
      out_flags = λ q h f. (p q f).1 ∙ c.out_flags q h f;
    }

-- they look at queues, credits, flags and wires alone
pub paid_alike : {pl : Plan} (s t : State) → t.lines.queue ≡ s.lines.queue → t.flow.credit ≡ s.flow.credit
    → t.flow.flag ≡ s.flow.flag → t.links.wire ≡ s.links.wire → Paid pl s → Paid pl t
unfolding account on_wires
paid_alike s t q c f w p =
    paid_by s t p (λ x h. rw (q, c, f, w)) (λ x h. rw (c, f) (refl, refl)) (λ x h g. rw q (p.out_capacities x h g))

-- the queue that an output brings a packet to is fed
pub next_fed : {pl : Plan} → Wired pl → (o : Output) (x : Packet) (n : Queue) → Drives pl o → next_by pl o x ≡ some n
    → fed pl n ≡ true
next_fed {pl} wired o x n d e = feeder_fed pl n o (fed_by wired (heading_of x.kind) x.active x.passive o d n e)

-- ---- one queue is changed
module _ {pl : Plan} (s : State) (c : Paid pl s) where
  -- a queue that no wire feeds stays within its capacity where it is changed so
  pub out_put : (k : Queue) (xs : List Packet) → (fed pl k ≡ false → length xs ≤ capacity pl.head k)
      → (q : Queue) → Exists pl q → fed pl q ≡ false
      → length (put same_queue s.lines.queue k xs q) ≤ capacity pl.head q
  out_put k xs l q h f = by (queue_or q k)
    where
      by : (q ≡ k) ⊎ (q ≢ k) → length (put same_queue s.lines.queue k xs q) ≤ capacity pl.head q
      by (inl e) = rw (e, queue_here s.lines.queue k xs) (l (rw e at f))
      by (inr ne) = rw (queue_away s.lines.queue k xs q ne) (c.out_capacities q h f)

  -- the head of a fed queue becomes another packet
  pub head_paid : (k : Queue) (x y : Packet) (rest : List Packet) → fed pl k ≡ true → s.lines.queue k ≡ x ∷ rest
      → Paid pl (with_queue k (y ∷ rest) s)
  unfolding account on_wires
  head_paid k x y rest wire e = paid_by s (with_queue k (y ∷ rest) s) c kept (λ q f. (refl, refl))
      (out_put k (y ∷ rest) (λ f. absurd (not_both wire f)))
    where
      kept : SameAccounts pl s (with_queue k (y ∷ rest) s)
      kept q f = let queue = cell_sum length s.lines.queue k (y ∷ rest) 0 0 (rw e (omega arith)) q in omega arith

  -- a fed queue's head leaves and its flag rises
  pub left_paid : (k : Queue) (x : Packet) (rest : List Packet) → fed pl k ≡ true → s.lines.queue k ≡ x ∷ rest
      → s.flow.flag k ≡ false → Paid pl (with_flag k true (with_queue k rest s))
  unfolding account on_wires
  left_paid k x rest wire e down =
      paid_by s (with_flag k true (with_queue k rest s)) c kept spared (out_put k rest (λ f. absurd (not_both wire f)))
    where
      kept : SameAccounts pl s (with_flag k true (with_queue k rest s))
      kept q f =
          let queue = cell_sum length s.lines.queue k rest 0 1 (rw e (omega arith)) q in
          let flag = cell_sum bit s.flow.flag k true 1 0 (rw down (omega arith)) q in
          omega arith

      spared : Spared pl s (with_flag k true (with_queue k rest s))
      spared q f = (refl, queue_away s.flow.flag k true q (fed_apart pl q k f wire))

  -- a queue that no wire feeds is changed within its capacity
  pub out_paid : (k : Queue) (xs : List Packet) → fed pl k ≡ false → length xs ≤ capacity pl.head k
      → Paid pl (with_queue k xs s)
  unfolding account on_wires
  out_paid k xs out l = paid_by s (with_queue k xs s) c kept (λ q f. (refl, refl)) (out_put k xs (λ f. l))
    where
      kept : SameAccounts pl s (with_queue k xs s)
      kept q f =
          let same = ap length (queue_away s.lines.queue k xs q (λ e. fed_apart pl k q out f (sym e))) in
          omega arith

  -- a packet joins such a queue with room
  pub join_paid : (k : Queue) (x : Packet) → fed pl k ≡ false → length (s.lines.queue k) < capacity pl.head k
      → Paid pl (join k x s)
  unfolding join
  join_paid k x out l =
      let more : length (s.lines.queue k ++ (x ∷ [])) ≡ length (s.lines.queue k) + 1 =
      length-append (s.lines.queue k) (x ∷ []) in
      out_paid k (s.lines.queue k ++ (x ∷ [])) out (omega arith)

-- ---- Start
pub start_paid : (pl : Plan) → Paid pl (start pl)
unfolding start blank account on_wires
start_paid pl =
    record {
      credits = λ q h f. let z = sum_nought (outputs pl) (λ n. brings pl q (output_at pl n) Empty) (λ j l. refl) in
          omega arith;
      out_credits = λ q h f. refl;
      out_capacities = λ q h f. omega arith;
      out_flags = λ q h f. refl;
    }

-- another phase
pub phase_paid : {pl : Plan} {s : State} (x : Phase) → Core pl s → Paid pl (with_phase x s)
phase_paid {pl} {s} x c = paid_alike s (with_phase x s) refl refl refl refl (paid_of c)

-- another slot
pub slot_paid : {pl : Plan} {s : State} (x : Slot) → Core pl s → Paid pl (with_slot x s)
slot_paid {pl} {s} x c = paid_alike s (with_slot x s) refl refl refl refl (paid_of c)

-- a connection set or cleared
pub connection_paid : {pl : Plan} {s : State} (a p t : ℕ) (x : Bool) → Paid pl s → Paid pl (with_connection a p t x s)
connection_paid {pl} {s} a p t x c = paid_alike s (with_connection a p t x s) refl refl refl refl c
