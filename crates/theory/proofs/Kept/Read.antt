-- READ keeps the places: each wire's packet joins the queue in which it belongs, each raised flag becomes a credit.
use mathlib.Core.Path.{◌≡◌, refl}
use mathlib.Core.Bool.{Bool, true, false}
use Rattle.packets.specs.declared.Packet.{Packet}
use Rattle.packets.specs.declared.Wire.{Wire}
use Rattle.packets.specs.declared.Wire.TheVariants.{Empty, Full}
use Rattle.packets.specs.Counters.{credit_up}
use Rattle.plan.specs.Head.{InRange}
use Rattle.plan.specs.Plan.{Plan}
use Rattle.plan_queues.specs.Queue.{Queue, Exists}
use Rattle.plan_queues.specs.Feeds.{Output}
use Rattle.plan_facts.specs.Wired.{Wired}
use Rattle.rules.specs.Outputs.{next_by}
use Rattle.rules.specs.State.{State, with_wire}
use Rattle.rules.specs.Read.{join_next, arrive, deliver, lower, settle}
use Rattle.rules.specs.Valid.{Drives, Carries}
use Rattle.rules.proofs.Apart.{full_not}
use Rattle.theory.proofs.Places.Lines.{belongs_exists}
use Rattle.theory.proofs.Kept.Parts.{Kept, wire_kept, credit_kept, flag_kept}
use Rattle.theory.proofs.Kept.Lines.{join_kept}

module _ {pl : Plan} (wired : Wired pl) (range : InRange pl.head) where
  -- a wire's packet joins its queue
  pub deliver_kept : (o : Output) (s : State) → Drives pl o → Kept pl s → Kept pl (deliver pl o s)
  unfolding deliver arrive
  deliver_kept o s d k = by (s.links.wire o) refl
    where
      -- the emptied wire carries nothing, and what it brought belongs in its next queue
      brought : (x : Packet) → Carries pl o x → Kept pl (join_next (next_by pl o x) x (with_wire o Empty s))
      brought x c =
          let emptied : Kept pl (with_wire o Empty s) = wire_kept k o Empty d (λ y e. absurd (full_not e)) in
          rw c.next (join_kept emptied c.queue x (belongs_exists wired c.queue x c.belongs) c.belongs)

      by : (w : Wire) → s.links.wire o ≡ w → Kept pl (arrive pl o w s)
      by Empty e = k
      by (Full x) e = brought x (k.wires o d x e)

  -- a raised flag becomes a credit
  pub settle_kept : (q : Queue) (s : State) → Exists pl q → Kept pl s → Kept pl (settle q s)
  unfolding settle lower
  settle_kept q s h k = by (s.flow.flag q)
    where
      by : (f : Bool) → Kept pl (lower q f s)
      by true = flag_kept (credit_kept k q (credit_up (s.flow.credit q)) h) q false h
      by false = k
