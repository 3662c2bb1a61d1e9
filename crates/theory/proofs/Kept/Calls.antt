-- Launch, Reply, Drop and Close keep the places: a SETUP and a closing TDOWN belong in their active's out-queue, an
-- answer in its passive's, and what is dropped goes.
use mathlib.Core.Path.{◌≡◌, refl}
use mathlib.Core.Logic.{◌⊎◌}
use mathlib.Core.Bool.{true, false}
use mathlib.Core.List.{List, ◌∷◌}
use Prim.Native.Nat.{ℕ, ◌+◌, ◌-◌, ◌<◌}
use native.Mathlib.Omega.{arith}
use Rattle.packets.specs.declared.Kind.{Kind}
use Rattle.packets.specs.declared.Kind.TheVariants.{Ack, Nack}
use Rattle.packets.specs.declared.Packet.{Packet}
use Rattle.plan.specs.Head.{InRange}
use Rattle.plan.specs.Plan.{Plan, A, P, S}
use Rattle.plan_walks.specs.Served.{Served}
use Rattle.plan_queues.specs.Queue.{Queue, active_out, active_in, passive_in, passive_out, Exists}
use Rattle.plan_queues.specs.Feeds.{Place, in_queue}
use Rattle.plan_queues.specs.Role.{is_unit}
use Rattle.plan_facts.specs.Wired.{Wired}
use Rattle.rules.specs.State.{State, with_queue, with_flag}
use Rattle.rules.specs.Visits.{setup_of, launched, replied_as, replied, removed, noted, closing_of, closed}
use Rattle.rules.specs.Valid.{Belongs}
use Rattle.theory.proofs.Places.Lines.{no_mark}
use Rattle.theory.proofs.Places.Makes.{setup_belongs, closing_belongs, replied_belongs}
use Rattle.theory.proofs.Places.Slots.{start_below}
use Rattle.theory.proofs.Cases.{noted_keeps}
use Rattle.theory.proofs.Kept.Parts.{Kept, flag_kept, connection_kept, allowance_kept}
use Rattle.theory.proofs.Kept.Lines.{head_belongs, join_kept, gone_kept}

-- the head of an in-queue is taken, and its flag rises
pub taken_kept : (pl : Plan) (q : Queue) (x : Packet) (rest : List Packet) (s : State) → Exists pl q → is_unit q ≡ false
    → s.lines.queue q ≡ x ∷ rest → Kept pl s → Kept pl (with_flag q true (with_queue q rest s))
taken_kept pl q x rest s h n e k = flag_kept (gone_kept k q x rest h e (no_mark pl s k.marks q h n)) q true h

module _ {pl : Plan} (wired : Wired pl) (range : InRange pl.head) where
  -- Launch: a SETUP joins its active's out-queue
  pub launched_kept : (a p t : ℕ) (s : State) → a < A pl → p < P pl → t < S pl → Served pl a p → Kept pl s
      → Kept pl (launched a p t s)
  unfolding launched
  launched_kept a p t s ha hp ht served k =
      allowance_kept (join_kept k (active_out a) (setup_of a p t) ha (setup_belongs wired range a p t ha hp ht served))
      a
      (s.flow.allowance a - 1) ha

  -- Reply: the head of a passive's in-queue becomes an answer in its out-queue
  pub replied_kept : (p : ℕ) (kind : Kind) (x : Packet) (rest : List Packet) (s : State) → p < P pl
      → (kind ≡ Ack) ⊎ (kind ≡ Nack) → s.lines.queue (passive_in p) ≡ x ∷ rest → Kept pl s
      → Kept pl (replied p kind (x ∷ rest) s)
  replied_kept p kind x rest s hp answer e k =
      join_kept (taken_kept pl (passive_in p) x rest s hp refl e k) (passive_out p) (replied_as kind x) hp
      (replied_belongs wired range x (in_queue (passive_in p)) (head_belongs k (passive_in p) x rest hp e) p kind refl
      answer)

  -- Drop: the head of an active's in-queue goes
  pub removed_kept : (a : ℕ) (x : Packet) (rest : List Packet) (s : State) → a < A pl
      → s.lines.queue (active_in a) ≡ x ∷ rest → Kept pl s → Kept pl (removed a rest s)
  unfolding removed
  removed_kept a x rest s ha e k =
      allowance_kept (taken_kept pl (active_in a) x rest s ha refl e k) a (s.flow.allowance a + 1) ha

  -- and an ACK's connection is set: its pair is the plan's, and its start a slot
  pub noted_kept : (x : Packet) (at : Place) (s : State) → Belongs pl at x → Kept pl s → Kept pl (noted pl x s)
  noted_kept x at s b k =
      noted_keeps pl x s (Kept pl) (λ e. connection_kept k x.active x.passive _ true b.ranges.active
      b.ranges.passive (start_below (S pl) x.slot x.hub (let l = b.ranges.slot in omega arith))) k

  -- Close: a TDOWN joins its active's out-queue, and its connection is cleared
  pub closed_kept : (a p t : ℕ) (s : State) → a < A pl → p < P pl → t < S pl → Served pl a p → Kept pl s
      → Kept pl (closed pl a p t s)
  unfolding closed
  closed_kept a p t s ha hp ht served k =
      connection_kept
      (join_kept k (active_out a) (closing_of pl a p t) ha (closing_belongs wired range a p t ha hp ht served)) a p t
      false ha hp ht
