-- WRITE keeps the places: the head of a chosen queue may leave it, and on the wire it belongs in the queue that it
-- goes to. Then the slot grows.
use mathlib.Core.Path.{◌≡◌, refl}
use mathlib.Core.Bool.{true, false, false≢true}
use mathlib.Core.List.{List, [], ◌∷◌}
use mathlib.Core.Option.{Option, none, some}
use Prim.Native.Nat.{ℕ, ◌+◌}
use native.Mathlib.Nat.{mod-lt}
use native.Mathlib.Omega.{arith}
use Rattle.basis.specs.Choice.{also_true}
use Rattle.packets.specs.declared.Packet.{Packet}
use Rattle.packets.specs.declared.Wire.TheVariants.{Full}
use Rattle.packets.specs.Counters.{slot_next, credit_down}
use Rattle.plan.specs.Head.{InRange}
use Rattle.plan.specs.Plan.{Plan, S}
use Rattle.plan_queues.specs.Queue.{Queue, Exists}
use Rattle.plan_queues.specs.Role.{Role, sending, receiving, handling, passing, role, is_unit}
use Rattle.plan_queues.specs.Feeds.{Output, output_of, in_queue, head_place}
use Rattle.plan_facts.specs.Wired.{Wired}
use Rattle.rules.specs.Outputs.{next_by, senders}
use Rattle.rules.specs.State.{State, Choice, nobody, sender, with_slot, with_queue, with_wire}
use Rattle.rules.specs.Execute.{has_credit, may_leave, candidate}
use Rattle.rules.specs.Write.{of_rank, raise_as, raise, spend, send_head, send_from, send_by, send}
use Rattle.rules.specs.Valid.{Belongs, Drives}
use Rattle.rules.proofs.Apart.{full_same}
use Rattle.rules.proofs.Numbers.{sender_exists}
use Rattle.theory.specs.Invariant.{Sendable}
use Rattle.theory.proofs.Places.Feeders.{sender_leaves}
use Rattle.theory.proofs.Places.Lines.{no_mark, head_leaves, line_of, belongs_exists}
use Rattle.theory.proofs.Places.Makes.{next_belongs}
use Rattle.theory.proofs.Kept.Parts.{Kept, slot_kept, choice_kept, last_kept, credit_kept, flag_kept}
use Rattle.theory.proofs.Kept.Parts.{wire_kept}
use Rattle.theory.proofs.Kept.Lines.{head_belongs, behind_belong, mark_kept, gone_kept}

module _ {pl : Plan} (wired : Wired pl) (range : InRange pl.head) where
  -- the head of a queue goes, its flag rises, and with the head of a unit's queue its mark goes
  raised : (q : Queue) (x : Packet) (rest : List Packet) (s : State) → Exists pl q → s.lines.queue q ≡ x ∷ rest
      → Kept pl s → Kept pl (raise q (with_queue q rest s))
  raised q x rest s h e k = by (role q) refl
    where
      goes : is_unit q ≡ false → Kept pl (with_queue q rest s)
      goes n = gone_kept k q x rest h e (no_mark pl s k.marks q h n)

      by : (m : Role) → role q ≡ m → Kept pl (raise_as m q (with_queue q rest s))
      by sending m = goes (rw m)
      by receiving m = flag_kept (goes (rw m)) q true h
      by (handling r i) m = flag_kept (mark_kept k q false rest h (line_of pl q rest (behind_belong k q x rest h e))
          (λ t. absurd (false≢true t))) q true h
      by passing m = flag_kept (goes (rw m)) q true h

  -- a candidate's head enters the wire
  entered : (o : Output) (q : Queue) (s : State) → Drives pl o → Exists pl q → output_of q ≡ some o
      → candidate pl s o q ≡ true → Kept pl s → Kept pl (send_head pl o q (s.lines.queue q) s)
  unfolding candidate send_head
  entered o q s d h leaves ready k = by (s.lines.queue q) refl
    where
      -- from the place of a head that may leave, by the queue's output, to the next queue, which has credit
      onto : (x : Packet) (rest : List Packet) → s.lines.queue q ≡ x ∷ rest → may_leave s q ≡ true
          → (n : Option Queue) → next_by pl o x ≡ n → has_credit s n ≡ true
          → Kept pl (with_wire o (Full x) (spend n (raise q (with_queue q rest s))))
      onto x rest e may none f c = absurd (false≢true c)
      onto x rest e may (some y) f c =
          let there : Belongs pl (in_queue y) x = next_belongs wired range x (head_place (s.lines.handled q) q)
          (head_belongs k q x rest h e) q y o (head_leaves s q may) leaves f in
          wire_kept (credit_kept (raised q x rest s h e k) y
          (credit_down ((raise q (with_queue q rest s)).flow.credit y)) (belongs_exists wired y x there)) o (Full x) d
          (λ z g. rw (← full_same g) (record { queue = y; next = f; belongs = there }))

      by : (l : List Packet) → s.lines.queue q ≡ l → Kept pl (send_head pl o q l s)
      by [] e = k
      by (x ∷ rest) e = let r = also_true (rw e at ready) in onto x rest e r.0 (next_by pl o x) refl r.1

  -- an output's choice, if it can be sent, is sent
  pub send_kept : (o : Output) (s : State) → Drives pl o
      → ((n : ℕ) → s.links.choice o ≡ sender n → Sendable pl s o n) → Kept pl s → Kept pl (send pl o s)
  unfolding send send_by
  send_kept o s d able k = by (s.links.choice o) refl
    where
      chosen : (n : ℕ) → Sendable pl s o n → Kept pl (send_from pl o (of_rank (senders o) n) s)
      chosen n g = rw g.rank (entered o g.queue s d (sender_exists pl o n g.queue d g.rank)
          (sender_leaves o n g.queue g.rank) g.ready k)

      by : (c : Choice) → s.links.choice o ≡ c → Kept pl (send_by pl o c s)
      by nobody e = k
      by (sender n) e = last_kept (choice_kept (chosen n (able n e)) o nobody (λ out. absurd (out d))) o n d

  -- the slot after the current one is one of the plan's
  pub turn_kept : (s : State) → Kept pl s → Kept pl (with_slot (slot_next s.clock.slot (S pl)) s)
  turn_kept s k =
      slot_kept k (slot_next s.clock.slot (S pl)) (mod-lt (s.clock.slot.0 + 1) (omega (arith, range.slots)))
