-- EXECUTE keeps the credits' part of the core: a TDOWN that ends leaves room and a raised flag, and a tear-down joins
-- an out-queue with room.
use mathlib.Core.Path.{◌≡◌, refl}
use mathlib.Core.Bool.{true, false}
use mathlib.Core.List.{List, ◌∷◌}
use Prim.Native.Nat.{ℕ}
use lib.ListN.{length}
use borrow.Author.Tests.{ltb-true}
use Rattle.packets.specs.declared.Packet.{Packet}
use Rattle.packets.specs.declared.Entry.{Entry}
use Rattle.plan.specs.Plan.{Plan, S}
use Rattle.plan_queues.specs.Queue.{active_out, active_in, Q}
use Rattle.plan_queues.specs.Feeds.{Output}
use Rattle.rules.specs.Capacity.{capacity}
use Rattle.rules.specs.Store.{put, same_queue}
use Rattle.rules.specs.State.{State, with_queue, with_flag, with_entry, join}
use Rattle.rules.specs.Execute.{handled_as, unit, choose, marked, tdown_of, torn, has_room, undo}
use Rattle.theory.specs.Invariant.{Core}
use Rattle.theory.proofs.Ground.Cells.{queue_away, fed_apart}
use Rattle.theory.proofs.Account.Paid.{Paid, paid_of, paid_alike, head_paid, left_paid, join_paid}
use Rattle.theory.proofs.Account.Units.{unit_by, undo_by}

module _ {pl : Plan} (s : State) (c : Core pl s) where
  -- ---- a unit: Q's head changes, or ends; the table may change
  handled_paid : (r i : ℕ) (x y : Packet) (rest : List Packet) → s.lines.queue (Q r i) ≡ x ∷ rest
      → Paid pl (handled_as r i y rest s)
  handled_paid r i x y rest e = paid_alike (with_queue (Q r i) (y ∷ rest) s) (handled_as r i y rest s) refl refl refl
      refl
      (head_paid s (paid_of c) (Q r i) x y rest refl e)

  entry_paid : (t : State) (r o k : ℕ) (e : Entry) → Paid pl t → Paid pl (with_entry r o k e t)
  entry_paid t r o k e p = paid_alike t (with_entry r o k e t) refl refl refl refl p

  -- a unit handles its head
  pub unit_paid : (r i : ℕ) → s.flow.flag (Q r i) ≡ false → Paid pl (unit pl r i s)
  unit_paid r i down =
      unit_by pl s (Paid pl) r i (paid_of c) (λ x y rest e m. handled_paid r i x y rest e)
      (λ x y rest o t b e m. entry_paid (handled_as r i y rest s) r o t b (handled_paid r i x y rest e))
      (λ x rest o t b e m. entry_paid (with_flag (Q r i) true (with_queue (Q r i) rest s)) r o t b
      (left_paid s (paid_of c) (Q r i) x rest refl e down))

  -- an output picks
  pub choose_paid : (o : Output) → Paid pl (choose pl o s)
  unfolding choose
  choose_paid o = paid_alike s (choose pl o s) refl refl refl refl (paid_of c)

  -- ---- an active tears down: the in-queue's head changes, and a packet joins the out-queue
  answered_paid : (a : ℕ) (x y z : Packet) (rest : List Packet) → s.lines.queue (active_in a) ≡ x ∷ rest
      → has_room pl (active_out a) s ≡ true → Paid pl (join (active_out a) z (with_queue (active_in a) (y ∷ rest) s))
  answered_paid a x y z rest e room =
      let same : put same_queue s.lines.queue (active_in a) (y ∷ rest) (active_out a)
      ≡ s.lines.queue (active_out a) =
      queue_away s.lines.queue (active_in a) (y ∷ rest) (active_out a)
      (fed_apart pl (active_out a) (active_in a) refl refl) in
      let l = ltb-true (length (s.lines.queue (active_out a))) (capacity pl.head (active_out a)) room in
      join_paid (with_queue (active_in a) (y ∷ rest) s) (head_paid s (paid_of c) (active_in a) x y rest refl e)
      (active_out a) z refl (rw same l)

  -- an active undoes what was declined
  pub undo_paid : (a : ℕ) → Paid pl (undo pl a s)
  undo_paid a =
      undo_by pl s (Paid pl) a (paid_of c)
      (λ x rest e u room. paid_alike (join (active_out a) (tdown_of (S pl) x)
      (with_queue (active_in a) (marked x ∷ rest) s)) (torn pl a x rest s) refl refl refl refl
      (answered_paid a x (marked x) (tdown_of (S pl) x) rest e room))
