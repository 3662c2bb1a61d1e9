-- A change that spares an output: its senders keep their heads, marks and flags, and its next queues their credits.
-- What could be sent still can.
use mathlib.Core.Path.{◌≡◌, refl, sym, ap, ◌∙◌}
use mathlib.Core.Logic.{◌⊎◌, inl, inr, ◌≢◌}
use mathlib.Core.Bool.{Bool, true}
use mathlib.Core.List.{List, [], ◌∷◌, ◌++◌, append-nil, append_assoc}
use mathlib.Core.Option.{Option, none, some}
use Prim.Native.Nat.{ℕ}
use borrow.Author.Tests.{lt-ltb}
use Rattle.basis.specs.Choice.{also_of}
use Rattle.kinds.specs.declared.Credit.{Credit}
use Rattle.packets.specs.declared.Packet.{Packet}
use Rattle.packets.specs.Counters.{credit_down}
use Rattle.plan.specs.Plan.{Plan}
use Rattle.plan_queues.specs.Queue.{Queue}
use Rattle.plan_queues.specs.Role.{role}
use Rattle.plan_queues.specs.Feeds.{Output, output_of}
use Rattle.rules.specs.Outputs.{next_by}
use Rattle.rules.specs.State.{State, with_queue, with_flag, join}
use Rattle.rules.specs.Execute.{may_leave_as, may_leave, candidate}
use Rattle.rules.specs.Write.{raise, spend}
use Rattle.theory.specs.Invariant.{Sendable}
use Rattle.theory.proofs.Places.Feeders.{sender_leaves}
use Rattle.theory.proofs.Ground.Cells.{queue_or, queue_here, queue_away}
use Rattle.theory.proofs.Places.Senders.{raise_queue, raise_credit, raise_handled, raise_other, Ready}
use Rattle.theory.proofs.Places.Senders.{candidate_ready}

-- a list with more behind it
abbrev pub Longer : List Packet → List Packet → Type 0
Longer xs zs = (ys : List Packet) × (zs ≡ xs ++ ys)

-- or none
pub longer_same : {xs zs : List Packet} → zs ≡ xs → Longer xs zs
longer_same {xs} {zs} e = ([], e ∙ sym (append-nil xs))

-- for the senders of o, and the queues beyond it, t has what s has
pub record Spares (pl : Plan) (s t : State) (o : Output) : Type 0 where
  pub heads : (q : Queue) → output_of q ≡ some o → Longer (s.lines.queue q) (t.lines.queue q)
  pub marks : (q : Queue) → output_of q ≡ some o → t.lines.handled q ≡ s.lines.handled q
  pub flags : (q : Queue) → output_of q ≡ some o → t.flow.flag q ≡ s.flow.flag q
  pub credits : (x : Packet) (n : Queue) → next_by pl o x ≡ some n → t.flow.credit n ≡ s.flow.credit n

-- ---- what could be sent still can
-- what is ready is a candidate
pub ready_candidate : (pl : Plan) (s : State) (o : Output) (q : Queue) → Ready pl s o q → candidate pl s o q ≡ true
unfolding candidate
ready_candidate pl s o q r =
    rw r.queue (also_of r.leaves (rw r.goes (lt-ltb 0 (s.flow.credit r.next).0 r.room)))

may_same : (s t : State) (q : Queue) → t.lines.handled q ≡ s.lines.handled q → may_leave t q ≡ may_leave s q
may_same s t q e = ap (may_leave_as (role q)) e

-- a candidate of a spared output stays one
pub spared_ready : {pl : Plan} {s t : State} {o : Output} → Spares pl s t o → (q : Queue) → output_of q ≡ some o
    → Ready pl s o q → Ready pl t o q
spared_ready {pl} {s} {t} {o} c q l r =
    let h = c.heads q l in
    record {
      head = r.head;
      rest = r.rest ++ h.0;
      queue = h.1 ∙ ap (λ (xs : List Packet). xs ++ h.0) r.queue;
      leaves = may_same s t q (c.marks q l) ∙ r.leaves;
      next = r.next;
      goes = r.goes;
      room = rw (c.credits r.head r.next r.goes) r.room;
    }

-- and what it could send it still can
pub spared_sendable : {pl : Plan} {s t : State} {o : Output} → Spares pl s t o → (k : ℕ) → Sendable pl s o k
    → Sendable pl t o k
spared_sendable {pl} {s} {t} {o} c k g =
    let l = sender_leaves o k g.queue g.rank in
    record {
      queue = g.queue;
      rank = g.rank;
      ready = ready_candidate pl t o g.queue
          (spared_ready c g.queue l (candidate_ready pl s o g.queue g.ready));
      down = c.flags g.queue l ∙ g.down;
    }

-- ---- changes that spare every output
-- what is not looked at
pub spares_alike : {pl : Plan} {o : Output} (s t : State) → t.lines.queue ≡ s.lines.queue → t.lines.handled
    ≡ s.lines.handled → t.flow.flag ≡ s.flow.flag → t.flow.credit ≡ s.flow.credit → Spares pl s t o
spares_alike s t q h f c =
    record {
      heads = λ x l. longer_same (ap (λ (m : Queue → List Packet). m x) q);
      marks = λ x l. ap (λ (m : Queue → Bool). m x) h;
      flags = λ x l. ap (λ (m : Queue → Bool). m x) f;
      credits = λ y n e. ap (λ (m : Queue → Credit). m n) c;
    }

-- one change after another
pub spares_then : {pl : Plan} {o : Output} (s t u : State) → Spares pl s t o → Spares pl t u o → Spares pl s u o
spares_then s t u a b =
    record {
      heads = λ x l.
          let g = a.heads x l in
          let h = b.heads x l in (
            g.0 ++ h.0,
            h.1 ∙ ap (λ (xs : List Packet). xs ++ h.0) g.1
                ∙ append_assoc (s.lines.queue x) g.0 h.0,
          );
      marks = λ x l. b.marks x l ∙ a.marks x l;
      flags = λ x l. b.flags x l ∙ a.flags x l;
      credits = λ y n e. b.credits y n e ∙ a.credits y n e;
    }

-- a packet joins a queue
pub join_spares : {pl : Plan} {o : Output} (k : Queue) (x : Packet) (s : State) → Spares pl s (join k x s) o
unfolding join
join_spares k x s =
    record {
      heads = λ q l. by q (queue_or q k);
      marks = λ q l. refl;
      flags = λ q l. refl;
      credits = λ y n e. refl;
    }
  where
    by : (q : Queue) → (q ≡ k) ⊎ (q ≢ k) → Longer (s.lines.queue q) ((join k x s).lines.queue q)
    by q (inl e) = (x ∷ [], rw e (queue_here s.lines.queue k (s.lines.queue k ++ (x ∷ []))))
    by q (inr ne) = longer_same (queue_away s.lines.queue k (s.lines.queue k ++ (x ∷ [])) q ne)

-- ---- changes of a queue that is no sender of the output
module _ {o : Output} (k : Queue) (out : output_of k ≡ some o → ⊥) where
  apart : (q : Queue) → output_of q ≡ some o → q ≢ k
  apart q l e = out (ap output_of (sym e) ∙ l)

  module _ {pl : Plan} where
    -- its packets
    pub turn_spares : (xs : List Packet) (s : State) → Spares pl s (with_queue k xs s) o
    turn_spares xs s =
        record {
          heads = λ q l. longer_same (queue_away s.lines.queue k xs q (apart q l));
          marks = λ q l. refl;
          flags = λ q l. refl;
          credits = λ y n e. refl;
        }

    -- its flag
    pub flag_spares : (b : Bool) (s : State) → Spares pl s (with_flag k b s) o
    flag_spares b s =
        record {
          heads = λ q l. longer_same refl;
          marks = λ q l. refl;
          flags = λ q l. queue_away s.flow.flag k b q (apart q l);
          credits = λ y n e. refl;
        }

    -- its flag, as a head leaves, and its mark
    pub raise_spares : (s : State) → Spares pl s (raise k s) o
    raise_spares s =
        record {
          heads = λ q l. longer_same (ap (λ (m : Queue → List Packet). m q) (raise_queue k s));
          marks = λ q l. raise_handled k s q (apart q l);
          flags = λ q l. raise_other k s q (apart q l);
          credits = λ y n e. ap (λ (m : Queue → Credit). m n) (raise_credit k s);
        }

-- a credit of a queue that is not beyond the output
pub spend_spares : {pl : Plan} {o : Output} (y : Option Queue) (s : State)
    → ((n : Queue) (x : Packet) → y ≡ some n → next_by pl o x ≡ some n → ⊥) → Spares pl s (spend y s) o
spend_spares none s away = spares_alike s s refl refl refl refl
spend_spares (some n) s away =
    record {
      heads = λ q l. longer_same refl;
      marks = λ q l. refl;
      flags = λ q l. refl;
      credits = λ x m e. queue_away s.flow.credit n (credit_down (s.flow.credit n)) m
          (λ i. away n x refl (e ∙ ap some i));
    }
