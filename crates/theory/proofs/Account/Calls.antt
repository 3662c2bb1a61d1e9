-- Launch, Reply, Drop and Close keep the credits' part of the core.
use mathlib.Core.Path.{◌≡◌, refl}
use mathlib.Core.Bool.{true, false}
use mathlib.Core.List.{List, ◌∷◌}
use Prim.Native.Nat.{ℕ}
use lib.ListN.{length}
use borrow.Author.Tests.{ltb-true}
use Rattle.packets.specs.declared.Kind.{Kind}
use Rattle.packets.specs.declared.Packet.{Packet}
use Rattle.plan.specs.Plan.{Plan}
use Rattle.plan_queues.specs.Queue.{active_out, active_in, passive_in, passive_out}
use Rattle.rules.specs.Capacity.{capacity}
use Rattle.rules.specs.Store.{put, same_queue}
use Rattle.rules.specs.State.{State, with_queue, with_flag, join}
use Rattle.rules.specs.Execute.{has_room}
use Rattle.rules.specs.Visits.{setup_of, launched, replied_as, replied, removed, noted, closing_of, closed}
use Rattle.theory.specs.Invariant.{Core}
use Rattle.theory.proofs.Ground.Cells.{queue_away, fed_apart}
use Rattle.theory.proofs.Account.Paid.{Paid, paid_of, paid_alike, left_paid, join_paid, connection_paid}
use Rattle.theory.proofs.Cases.{noted_keeps}

module _ {pl : Plan} (s : State) (c : Core pl s) where
  -- a SETUP joins an active's out-queue
  pub launched_paid : (a p t : ℕ) → has_room pl (active_out a) s ≡ true → Paid pl (launched a p t s)
  unfolding launched join
  launched_paid a p t room =
      paid_alike (join (active_out a) (setup_of a p t) s) (launched a p t s) refl refl refl refl
      (join_paid s (paid_of c) (active_out a) (setup_of a p t) refl
      (ltb-true (length (s.lines.queue (active_out a))) (capacity pl.head (active_out a)) room))

  -- a passive answers: the head leaves its in-queue and joins its out-queue
  pub replied_paid : (p : ℕ) (k : Kind) (x : Packet) (rest : List Packet) → s.lines.queue (passive_in p) ≡ x ∷ rest
      → s.flow.flag (passive_in p) ≡ false → has_room pl (passive_out p) s ≡ true → Paid pl (replied p k (x ∷ rest) s)
  replied_paid p k x rest e down room =
      let same : put same_queue s.lines.queue (passive_in p) rest (passive_out p) ≡ s.lines.queue (passive_out p)
      = queue_away s.lines.queue (passive_in p) rest (passive_out p)
      (fed_apart pl (passive_out p) (passive_in p) refl refl) in
      let l = ltb-true (length (s.lines.queue (passive_out p))) (capacity pl.head (passive_out p)) room in
      join_paid (with_flag (passive_in p) true (with_queue (passive_in p) rest s))
      (left_paid s (paid_of c) (passive_in p) x rest refl e down) (passive_out p) (replied_as k x) refl (rw same l)

  -- an active takes its in-queue's head
  pub removed_paid : (a : ℕ) (x : Packet) (rest : List Packet) → s.lines.queue (active_in a) ≡ x ∷ rest
      → s.flow.flag (active_in a) ≡ false → Paid pl (removed a rest s)
  unfolding removed
  removed_paid a x rest e down =
      paid_alike (with_flag (active_in a) true (with_queue (active_in a) rest s)) (removed a rest s) refl refl refl refl
      (left_paid s (paid_of c) (active_in a) x rest refl e down)

  -- and notes its connection
  pub noted_paid : (x : Packet) → Paid pl (noted pl x s)
  noted_paid x = noted_keeps pl x s (Paid pl) (λ e. connection_paid x.active x.passive _ true (paid_of c))
      (paid_of c)

  -- a closing TDOWN joins an active's out-queue
  pub closed_paid : (a p t : ℕ) → has_room pl (active_out a) s ≡ true → Paid pl (closed pl a p t s)
  unfolding closed
  closed_paid a p t room =
      connection_paid a p t false
      (join_paid s (paid_of c) (active_out a) (closing_of pl a p t) refl
      (ltb-true (length (s.lines.queue (active_out a))) (capacity pl.head (active_out a)) room))
