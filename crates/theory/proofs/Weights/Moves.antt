-- What READ and WRITE do to the sum of weights: a packet that goes from a queue to a wire and from a wire to a queue
-- keeps its weight, if the weight is steady. Delivery, settling and choice keep every weight.
use mathlib.Core.Path.{◌≡◌, refl, ap, subst, ◌∙◌}
use mathlib.Core.Bool.{Bool, true, false}
use mathlib.Core.List.{List, ◌∷◌}
use mathlib.Core.Option.{some}
use Prim.Native.Nat.{ℕ, ◌+◌}
use native.Mathlib.Omega.{arith}
use Rattle.packets.specs.declared.Packet.{Packet}
use Rattle.kinds.specs.declared.Slot.{Slot}
use Rattle.packets.specs.declared.Phase.{Phase}
use Rattle.packets.specs.declared.Wire.{Wire}
use Rattle.packets.specs.declared.Wire.TheVariants.{Empty, Full}
use Rattle.plan.specs.Plan.{Plan}
use Rattle.plan_queues.specs.Queue.{Queue, Exists}
use Rattle.plan_queues.specs.Role.{Role, sending, receiving, handling, passing, role}
use Rattle.plan_queues.specs.Feeds.{Output, Place, in_queue, leaves_from, head_place}
use Rattle.plan_facts.specs.Wired.{Wired}
use Rattle.rules.specs.Outputs.{next_by, senders}
use Rattle.rules.specs.State.{State, Links, sender, with_phase, with_slot, with_queue, with_wire, with_connection}
use Rattle.rules.specs.Read.{deliver, lower, settle}
use Rattle.rules.specs.Execute.{may_leave, choose}
use Rattle.rules.specs.Write.{of_rank, raise_as, raise, spend, send}
use Rattle.rules.specs.Valid.{Belongs, Lined, Drives, Carries, in_all}
use Rattle.rules.proofs.Numbers.{sender_exists}
use Rattle.theory.specs.Invariant.{Core, Sendable}
use Rattle.theory.proofs.Places.Lines.{head_leaves, belongs_exists}
use Rattle.theory.proofs.Places.Senders.{raise_links}
use Rattle.theory.proofs.Cases.{deliver_none, deliver_one, after_sent, send_one, SendDoes, none_sent, sent}
use Rattle.theory.proofs.Cases.{send_does}
use Rattle.theory.specs.Weights.{Weight, in_line, on_wire, weighed}
use Rattle.theory.proofs.Weights.Total.{line_in, line_fresh, weighed_queue, weighed_line, weighed_wire}
use Rattle.theory.proofs.Weights.Total.{weighed_join}

-- ---- where packets are
-- A queue's head belongs where the handled mark puts it.
pub core_head : {pl : Plan} {s : State} → Core pl s → (q : Queue) → Exists pl q → (x : Packet) (rest : List Packet)
    → s.lines.queue q ≡ x ∷ rest → Belongs pl (head_place (s.lines.handled q) q) x
core_head {pl} {s} c q h x rest e = (subst (Lined pl q (s.lines.handled q)) e (c.places q h)).0

-- ---- weights that a packet keeps as it leaves a queue for the next
abbrev pub Steady : Plan → Weight → Type 0
Steady pl w =
    (o : Output) (k : ℕ) (q y : Queue) (x : Packet) → Drives pl o → of_rank (senders o) k ≡ some q
    → next_by pl o x ≡ some y → Belongs pl (leaves_from q) x → w (leaves_from q) x ≡ w (in_queue y) x

-- what a sending needs of the state
pub record Sends (pl : Plan) (o : Output) (s : State) : Type 0 where
  pub core : Core pl s
  pub ready : (k : ℕ) → s.links.choice o ≡ sender k → Sendable pl s o k
  pub clear : s.links.wire o ≡ Empty

module _ (pl : Plan) (w : Weight) where
  -- The phase does not matter.
  pub phase_weighed : (x : Phase) (s : State) → weighed pl w (with_phase x s) ≡ weighed pl w s
  unfolding weighed
  phase_weighed x s = refl

  -- The slot does not matter.
  pub slot_weighed : (x : Slot) (s : State) → weighed pl w (with_slot x s) ≡ weighed pl w s
  unfolding weighed
  slot_weighed x s = refl

  -- The connections do not matter.
  pub connection_weighed : (a p t : ℕ) (x : Bool) (s : State)
      → weighed pl w (with_connection a p t x s) ≡ weighed pl w s
  unfolding weighed
  connection_weighed a p t x s = refl

  -- Settling a flag keeps every weight.
  pub settle_weighed : (q : Queue) (s : State) → weighed pl w (settle q s) ≡ weighed pl w s
  unfolding settle lower weighed
  settle_weighed q s = by (s.flow.flag q)
    where
      by : (b : Bool) → weighed pl w (lower q b s) ≡ weighed pl w s
      by true = refl
      by false = refl

  -- A choice keeps every weight.
  pub choose_weighed : (o : Output) (s : State) → weighed pl w (choose pl o s) ≡ weighed pl w s
  unfolding choose weighed
  choose_weighed o s = refl

  -- The packets of a queue whose head is in the queue, replaced.
  pub queue_weighed : (q : Queue) → Exists pl q → (xs : List Packet) (s : State)
      → head_place (s.lines.handled q) q ≡ in_queue q
      → weighed pl w (with_queue q xs s) + in_all (w (in_queue q)) (s.lines.queue q) ≡ weighed pl w s
      + in_all (w (in_queue q)) xs
  queue_weighed q h xs s e =
      let all = weighed_queue pl w q h xs s in
      let old = line_in w q (s.lines.handled q) (s.lines.queue q) e in
      let new = line_in w q (s.lines.handled q) xs e in
      omega arith

  -- the packets of a queue replaced as its head leaves
  leave_weighed : (q : Queue) → Exists pl q → (xs : List Packet) (s : State)
      → weighed pl w (raise q (with_queue q xs s)) + in_line w q (s.lines.handled q) (s.lines.queue q)
      ≡ weighed pl w s + in_all (w (in_queue q)) xs
  unfolding weighed
  leave_weighed q h xs s = by (role q) refl
    where
      plain : head_place (s.lines.handled q) q ≡ in_queue q → weighed pl w (with_queue q xs s)
          + in_line w q (s.lines.handled q) (s.lines.queue q) ≡ weighed pl w s + in_all (w (in_queue q)) xs
      plain e =
          weighed_queue pl w q h xs s ∙ ap (λ (n : ℕ). weighed pl w s + n) (line_in w q (s.lines.handled q) xs e)

      by : (k : Role) → role q ≡ k → weighed pl w (raise_as k q (with_queue q xs s)) + in_line w q (s.lines.handled q)
          (s.lines.queue q) ≡ weighed pl w s + in_all (w (in_queue q)) xs
      by sending e = plain (rw e)
      by receiving e = plain (rw e)
      by (handling r i) e = weighed_line pl w q h false xs s ∙ ap (λ (n : ℕ). weighed pl w s + n) (line_fresh w q xs)
      by passing e = plain (rw e)

  -- A head that is sent weighs as in its next queue from then on.
  pub sent_weighed : (s : State) (o : Output) (k : ℕ) (q y : Queue) (x : Packet) (rest : List Packet) → Drives pl o
      → Exists pl q → s.links.wire o ≡ Empty
      → s.lines.queue q ≡ x ∷ rest → may_leave s q ≡ true → next_by pl o x ≡ some y
      → weighed pl w (after_sent pl o s k q y x rest) + w (leaves_from q) x ≡ weighed pl w s + w (in_queue y) x
  unfolding weighed in_line on_wire
  sent_weighed s o k q y x rest d h z e m n =
      let u : State = spend (some y) (raise q (with_queue q rest s)) in
      let clear : on_wire pl w o ((raise q (with_queue q rest s)).links.wire o) ≡ 0 =
      ap (λ (l : Links). on_wire pl w o (l.wire o)) (raise_links q (with_queue q rest s)) ∙ ap (on_wire pl w o) z in
      let onto : on_wire pl w o (Full x) ≡ w (in_queue y) x = rw n in
      let wire = weighed_wire pl w o d (Full x) u in
      let old : in_line w q (s.lines.handled q) (s.lines.queue q) ≡ w (leaves_from q) x
      + in_all (w (in_queue q)) rest =
      ap (in_line w q (s.lines.handled q)) e
      ∙ ap (λ (at : Place). w at x + in_all (w (in_queue q)) rest) (head_leaves s q m)
      in
      let line = leave_weighed q h rest s in
      omega arith

  module _ (wired : Wired pl) {s : State} (c : Core pl s) (o : Output) (d : Drives pl o) where
    -- A delivery keeps every weight.
    pub deliver_weighed : weighed pl w (deliver pl o s) ≡ weighed pl w s
    unfolding on_wire
    deliver_weighed = by (s.links.wire o) refl
      where
        by : (v : Wire) → s.links.wire o ≡ v → weighed pl w (deliver pl o s) ≡ weighed pl w s
        by Empty e = ap (weighed pl w) (deliver_none pl o s e)
        by (Full x) e =
            let k : Carries pl o x = c.wires o d x e in
            let h = belongs_exists wired k.queue x k.belongs in
            let joined = weighed_join pl w k.queue h x (with_wire o Empty s) (λ t. (c.marks k.queue h t).3) in
            let wire = weighed_wire pl w o d Empty s in
            let was : on_wire pl w o (s.links.wire o) ≡ w (in_queue k.queue) x = rw (e, k.next) in
            let left : on_wire pl w o Empty ≡ 0 = refl in
            ap (weighed pl w) (deliver_one pl o s x k.queue e k.next) ∙ omega arith

    -- A sending keeps a steady weight.
    pub send_weighed : Steady pl w → ((k : ℕ) → s.links.choice o ≡ sender k → Sendable pl s o k)
        → s.links.wire o ≡ Empty → weighed pl w (send pl o s) ≡ weighed pl w s
    send_weighed steady ready z = by (send_does pl o s ready)
      where
        by : SendDoes pl o s → weighed pl w (send pl o s) ≡ weighed pl w s
        by (none_sent e) = ap (weighed pl w) e
        by (sent k q e r g) =
            let h = sender_exists pl o k q d r in
            let belongs = subst (λ (at : Place). Belongs pl at g.packet) (head_leaves s q g.leaves)
            (core_head c q h g.packet g.rest g.line) in
            let same = steady o k q g.onto g.packet d r g.next belongs in
            let all = sent_weighed s o k q g.onto g.packet g.rest d h z g.line g.leaves g.next in
            ap (weighed pl w) (send_one pl o s k q e r g) ∙ omega arith
        -- ---- folds
