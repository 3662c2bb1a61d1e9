-- READ, choices, WRITE and an active's tear-down change lines, flow and links alone, and a sending what its output
-- remembers: the table and the connections stay. A unit leaves the connections and what outputs remember.
use mathlib.Core.Path.{◌≡◌, refl, ap, ◌∙◌}
use mathlib.Core.Bool.{Bool, true, false, ◌&&◌}
use mathlib.Core.List.{List, [], ◌∷◌}
use mathlib.Core.Option.{Option, none, some}
use Prim.Native.Nat.{ℕ}
use Rattle.packets.specs.declared.Packet.{Packet}
use Rattle.packets.specs.declared.Wire.{Wire}
use Rattle.packets.specs.declared.Wire.TheVariants.{Empty, Full}
use Rattle.plan.specs.Plan.{Plan, S}
use Rattle.plan_queues.specs.Queue.{Queue, active_out, active_in}
use Rattle.plan_queues.specs.Feeds.{Output}
use Rattle.rules.specs.Outputs.{next_by, senders}
use Rattle.rules.specs.State.{State, Lines, Flow, Links, Choice, nobody, sender, with_lines, with_flow, with_links}
use Rattle.rules.specs.State.{with_last_senders}
use Rattle.rules.specs.State.{with_queue, with_wire, with_credit, with_flag, with_handled, with_choice, join}
use Rattle.packets.specs.Counters.{credit_down}
use Rattle.rules.specs.Read.{join_next, arrive, deliver, lower, settle}
use Rattle.rules.specs.Execute.{choose, unmarked, has_room, marked, tdown_of, answer, at_active, unit, undo}
use Rattle.rules.specs.Write.{of_rank, raise, spend, send_head, send_from, send_by, send}
use Rattle.theory.proofs.Places.Senders.{raise_leaves}
use Rattle.theory.proofs.Cases.{unit_books, unit_declines, unit_ends, unit_frees, UnitDoes, rests, books}
use Rattle.theory.proofs.Cases.{declines, ends, frees, unit_does, turn_taken}

-- what neither lines nor flow nor links change
pub record Apart {X : Type 0} (f : State → X) : Type 0 where
  pub lines : (x : Lines) (s : State) → f (with_lines x s) ≡ f s
  pub flow : (x : Flow) (s : State) → f (with_flow x s) ≡ f s
  pub links : (x : Links) (s : State) → f (with_links x s) ≡ f s

-- The table is such a part,
pub table_apart : Apart (λ (s : State). s.table)
table_apart = record { lines = λ x s. refl; flow = λ x s. refl; links = λ x s. refl }

-- and so are the connections.
pub connections_apart : Apart (λ (s : State). s.connections)
connections_apart = record { lines = λ x s. refl; flow = λ x s. refl; links = λ x s. refl }

-- And so is what outputs remember.
pub last_apart : Apart (λ (s : State). s.last_sender)
last_apart = record { lines = λ x s. refl; flow = λ x s. refl; links = λ x s. refl }

module _ {X : Type 0} {f : State → X} (k : Apart f) where
  -- a packet that joins leaves it
  join_leaves : (q : Queue) (x : Packet) (s : State) → f (join q x s) ≡ f s
  unfolding join
  join_leaves q x s = k.lines (join q x s).lines s

  spend_leaves : (y : Option Queue) (s : State) → f (spend y s) ≡ f s
  spend_leaves none s = refl
  spend_leaves (some q) s = k.flow (with_credit q (credit_down (s.flow.credit q)) s).flow s

  module _ (pl : Plan) (s : State) where
    -- A delivery leaves it.
    pub deliver_leaves : (o : Output) → f (deliver pl o s) ≡ f s
    unfolding deliver arrive
    deliver_leaves o = by (s.links.wire o)
      where
        to : (x : Packet) (y : Option Queue) → f (join_next y x (with_wire o Empty s)) ≡ f s
        to x none = k.links (with_wire o Empty s).links s
        to x (some q) = join_leaves q x (with_wire o Empty s) ∙ k.links (with_wire o Empty s).links s

        by : (v : Wire) → f (arrive pl o v s) ≡ f s
        by Empty = refl
        by (Full x) = to x (next_by pl o x)

    -- So does the settling of a flag.
    pub settle_leaves : (q : Queue) → f (settle q s) ≡ f s
    unfolding settle lower
    settle_leaves q = by (s.flow.flag q)
      where
        by : (b : Bool) → f (lower q b s) ≡ f s
        by true = k.flow (lower q true s).flow s
        by false = refl

    -- So does a choice.
    pub choose_leaves : (o : Output) → f (choose pl o s) ≡ f s
    unfolding choose
    choose_leaves o = k.links (choose pl o s).links s

    -- So does a head that goes,
    pub sent_leaves : (o : Output) (y : Option Queue) → f (send_from pl o y s) ≡ f s
    unfolding send_head
    sent_leaves o y = from y
      where
        head : (q : Queue) (l : List Packet) → f (send_head pl o q l s) ≡ f s
        head q [] = refl
        head q (x ∷ rest) =
            k.links (with_wire o (Full x) (spend (next_by pl o x) (raise q (with_queue q rest s)))).links
            (spend (next_by pl o x) (raise q (with_queue q rest s)))
            ∙ spend_leaves (next_by pl o x) (raise q (with_queue q rest s))
            ∙ raise_leaves f (λ p b t. k.flow (with_flag p b t).flow t)
            (λ p b t. k.lines (with_handled p b t).lines t) q (with_queue q rest s)
            ∙ k.lines (with_queue q rest s).lines s

        from : (y : Option Queue) → f (send_from pl o y s) ≡ f s
        from none = refl
        from (some q) = head q (s.lines.queue q)

    -- and so does a sending, if it is not what outputs remember.
    pub send_leaves : ((x : Output → ℕ) (t : State) → f (with_last_senders x t) ≡ f t) → (o : Output)
        → f (send pl o s) ≡ f s
    unfolding send send_by
    send_leaves last o = by (s.links.choice o)
      where
        by : (c : Choice) → f (send_by pl o c s) ≡ f s
        by nobody = refl
        by (sender n) =
            let t : State = send_from pl o (of_rank (senders o) n) s in
            last (turn_taken o n t).last_sender (with_choice o nobody t) ∙ k.links (with_choice o nobody t).links t
            ∙ sent_leaves o (of_rank (senders o) n)

    -- So does an active's tear-down.
    pub undo_leaves : (a : ℕ) → f (undo pl a s) ≡ f s
    unfolding undo at_active answer
    undo_leaves a = by (s.lines.queue (active_in a))
      where
        to : (x : Packet) (rest : List Packet) (b : Bool) → f (answer pl a x rest b s) ≡ f s
        to x rest true =
            join_leaves (active_out a) (tdown_of (S pl) x) (with_queue (active_in a) (marked x ∷ rest) s)
            ∙ k.lines (with_queue (active_in a) (marked x ∷ rest) s).lines s
        to x rest false = refl

        by : (l : List Packet) → f (at_active pl a l s) ≡ f s
        by [] = refl
        by (x ∷ rest) = to x rest (unmarked x && has_room pl (active_out a) s)

-- A unit leaves the connections and what outputs remember: whatever is read of these.
pub unit_leaves : {X : Type 0} (g : (ℕ → ℕ → ℕ → Bool) → (Output → ℕ) → X) (pl : Plan) (s : State) (r i : ℕ)
    → g (unit pl r i s).connections (unit pl r i s).last_sender ≡ g s.connections s.last_sender
unit_leaves {X} g pl s r i = by (unit_does pl r i s)
  where
    of : State → X
    of u = g u.connections u.last_sender

    by : UnitDoes pl r i s → of (unit pl r i s) ≡ of s
    by (rests e) = ap of e
    by (books x rest e f q t) = ap of (unit_books pl r i s x rest e f q t)
    by (declines x rest e f q t) = ap of (unit_declines pl r i s x rest e f q t)
    by (ends x rest e f q t) = ap of (unit_ends pl r i s x rest e f q t)
    by (frees x rest e f q t) = ap of (unit_frees pl r i s x rest e f q t)
