-- WRITE keeps the credits' part of the core: what an output sends leaves its queue with a raised flag, and is on the
-- wire for a credit of its next queue.
use mathlib.Core.Path.{◌≡◌, refl, sym, ap, subst, ◌∙◌}
use mathlib.Core.Logic.{◌⊎◌, inl, inr}
use mathlib.Core.Bool.{true, false, not}
use mathlib.Core.List.{List, ◌∷◌}
use mathlib.Core.Option.{Option, some}
use Prim.Native.Nat.{ℕ, suc, ◌≤◌, ◌<◌}
use native.Mathlib.Omega.{arith}
use lib.ListN.{length}
use Rattle.basis.specs.Choice.{test}
use Rattle.kinds.specs.declared.Credit.{Credit}
use Rattle.packets.specs.declared.Packet.{Packet}
use Rattle.packets.specs.declared.Wire.TheVariants.{Empty, Full}
use Rattle.packets.specs.Counters.{credit_down}
use Rattle.plan.specs.Plan.{Plan}
use Rattle.plan_queues.specs.Queue.{Queue, Exists}
use Rattle.plan_queues.specs.Role.{is_out_queue}
use Rattle.plan_queues.specs.Feeds.{Output}
use Rattle.plan_facts.specs.Wired.{Wired}
use Rattle.rules.specs.Capacity.{capacity}
use Rattle.rules.specs.Store.{same_queue}
use Rattle.rules.specs.Outputs.{next_by, senders}
use Rattle.rules.specs.State.{State, Links, Choice, nobody, sender, with_queue, with_wire, with_credit, with_flag}
use Rattle.rules.specs.Write.{of_rank, raise, spend, send_head, send_from, send_by, send}
use Rattle.rules.specs.Valid.{Drives, bit, goes_to, brings, on_wires, fed}
use Rattle.rules.proofs.Numbers.{sender_exists}
use Rattle.theory.proofs.Ground.Cells.{queue_away, same_turn, cell_sum, fed_apart, outputs_put}
use Rattle.theory.proofs.Cases.{turn_taken}
use Rattle.theory.specs.Invariant.{account, Core, Sendable}
use Rattle.theory.proofs.Places.Feeders.{belongs_fed}
use Rattle.theory.proofs.Places.Lines.{head_leaves}
use Rattle.theory.proofs.Places.Senders.{raise_queue, raise_credit, raise_links, raise_flag, raise_none, Ready}
use Rattle.theory.proofs.Places.Senders.{candidate_ready}
use Rattle.theory.proofs.Account.Paid.{Paid, SameAccounts, Spared, paid_by, paid_of, paid_alike, next_fed}
use Rattle.theory.proofs.Account.Paid.{left_paid, out_paid}

module _ {pl : Plan} (wired : Wired pl) where
  -- ---- the two halves of a sending: out of the queue, and on to the wire
  leaves_paid : (q : Queue) (x : Packet) (rest : List Packet) (s : State) → Exists pl q → Paid pl s
      → fed pl q ≡ not (is_out_queue q) → s.lines.queue q ≡ x ∷ rest → s.flow.flag q ≡ false
      → Paid pl (raise q (with_queue q rest s))
  leaves_paid q x rest s h c kind e down = by (test (is_out_queue q))
    where
      u : State
      u = with_queue q rest s

      by : (is_out_queue q ≡ true) ⊎ (is_out_queue q ≡ false) → Paid pl (raise q (with_queue q rest s))
      by (inr f) =
          paid_alike (with_flag q true (with_queue q rest s)) (raise q (with_queue q rest s)) (raise_queue q u)
          (raise_credit q u) (raise_flag q u f) (ap (λ (l : Links). l.wire) (raise_links q u))
          (left_paid s c q x rest (kind ∙ ap not f) e down)
      by (inl f) =
          let l : length (s.lines.queue q) ≤ capacity pl.head q = c.out_capacities q h (kind ∙ ap not f) in
          let n : length (s.lines.queue q) ≡ suc (length rest) = ap length e in
          paid_alike (with_queue q rest s) (raise q (with_queue q rest s)) (raise_queue q u) (raise_credit q u)
          (raise_none q u f) (ap (λ (l : Links). l.wire) (raise_links q u))
          (out_paid s c q rest (kind ∙ ap not f) (omega arith))

  enters_paid : (o : Output) (x : Packet) (n : Queue) (s : State) → Drives pl o → Paid pl s → s.links.wire o ≡ Empty
      → next_by pl o x ≡ some n → 0 < (s.flow.credit n).0
      → Paid pl (with_wire o (Full x) (with_credit n (credit_down (s.flow.credit n)) s))
  unfolding account on_wires
  enters_paid o x n s d c e g room = paid_by s (with_wire o (Full x) (with_credit n (credit_down (s.flow.credit n)) s))
      c kept spared c.out_capacities
    where
      kept : SameAccounts pl s (with_wire o (Full x) (with_credit n (credit_down (s.flow.credit n)) s))
      kept q f =
          let wire = outputs_put pl (brings pl q) s.links.wire o (Full x) d in
          let was : brings pl q o (s.links.wire o) ≡ 0 = ap (brings pl q o) e in
          let now : goes_to q (next_by pl o x) ≡ bit (same_queue q n) = ap (goes_to q) g ∙ ap bit (same_turn n q) in
          let credit = cell_sum (λ (k : Credit). k.0) s.flow.credit n (credit_down (s.flow.credit n)) 0 1
          (omega arith) q in
          omega arith

      spared : Spared pl s (with_wire o (Full x) (with_credit n (credit_down (s.flow.credit n)) s))
      spared q f = (
        queue_away s.flow.credit n (credit_down (s.flow.credit n)) q
            (fed_apart pl q n f (next_fed wired o x n d g)),
        refl,
      )

  sent_paid : (o : Output) (q : Queue) (s : State) → Drives pl o → Exists pl q → Core pl s → s.links.wire o ≡ Empty
      → s.flow.flag q ≡ false → Ready pl s o q → Paid pl (send_head pl o q (s.lines.queue q) s)
  unfolding send_head
  sent_paid o q s d h c w down r =
      subst (λ (xs : List Packet). Paid pl (send_head pl o q xs s)) (sym r.queue)
      (subst (λ (y : Option Queue).
      Paid pl (with_wire o (Full r.head) (spend y (raise q (with_queue q r.rest s))))) (sym r.goes)
      (enters_paid o r.head r.next (raise q (with_queue q r.rest s)) d
      (leaves_paid q r.head r.rest s h (paid_of c) sends r.queue down)
      (ap (λ (l : Links). l.wire o) (raise_links q (with_queue q r.rest s)) ∙ w) r.goes
      (rw (raise_credit q (with_queue q r.rest s)) r.room)))
    where
      -- what has a head is fed by a wire, or it is an out-queue
      sends : fed pl q ≡ not (is_out_queue q)
      sends =
          let head = (rw r.queue at (c.places q h)).0 in
          belongs_fed wired q r.head (rw (head_leaves s q r.leaves) at head)

  -- an output sends what it picked
  pub send_paid : (o : Output) (s : State) → Drives pl o → Core pl s → s.links.wire o ≡ Empty
      → ((k : ℕ) → s.links.choice o ≡ sender k → Sendable pl s o k) → Paid pl (send pl o s)
  unfolding send send_by
  send_paid o s d c w ok = by (s.links.choice o) refl
    where
      by : (x : Choice) → s.links.choice o ≡ x → Paid pl (send_by pl o x s)
      by nobody e = paid_of c
      by (sender k) e =
          let g = ok k e in
          let p = sent_paid o g.queue s d (sender_exists pl o k g.queue d g.rank) c w g.down
          (candidate_ready pl s o g.queue g.ready) in
          paid_alike (send_from pl o (of_rank (senders o) k) s)
          (turn_taken o k (send_from pl o (of_rank (senders o) k) s)) refl refl refl refl
          (subst (λ (y : Option Queue). Paid pl (send_from pl o y s)) (sym g.rank) p)
