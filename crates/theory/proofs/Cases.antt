-- What each step of the rules does, by cases, each with the state that it leaves: a wire's delivery, a unit's turn, an
-- active's tear-down, a sending, what a Drop notes.
use mathlib.Core.Path.{◌≡◌, refl, ap, ap₂, ◌∙◌}
use mathlib.Core.Logic.{◌⊎◌, inl, inr}
use mathlib.Core.Bool.{Bool, true, false, ◌&&◌, false≢true}
use mathlib.Core.List.{List, [], ◌∷◌}
use mathlib.Core.Option.{Option, none, some}
use Prim.Native.Nat.{ℕ, ◌≤◌}
use native.Mathlib.Omega.{arith}
use lib.Dec.{eqb, ltb}
use borrow.Author.Tests.{eqb-false, not-true}
use Rattle.basis.specs.Choice.{also_true, test}
use Rattle.packets.specs.declared.Kind.{Kind}
use Rattle.packets.specs.declared.Kind.TheVariants.{Setup, Tdown, Ack, Nack}
use Rattle.packets.specs.declared.Packet.{Packet}
use Rattle.packets.specs.declared.Wire.{Wire}
use Rattle.packets.specs.declared.Wire.TheVariants.{Empty, Full}
use Rattle.packets.specs.declared.Entry.TheVariants.{Free, Booked}
use Rattle.plan.specs.Plan.{Plan, passive, S, route_to}
use Rattle.plan_queues.specs.Queue.{Queue, active_out, active_in, Q}
use Rattle.plan_queues.specs.Feeds.{Output}
use Rattle.rules.specs.Outputs.{next_by, senders}
use Rattle.rules.specs.State.{State, Choice, nobody, sender, with_queue, with_wire, with_flag, with_choice, with_entry}
use Rattle.rules.specs.State.{with_last_sender}
use Rattle.rules.specs.Read.{arrived, join_next, arrive, deliver}
use Rattle.rules.specs.Execute.{came_in, declined, booked, freed, may_book, handled_as, set_up, tear_one, tear_down}
use Rattle.rules.specs.Execute.{handle, at_unit, unit, has_credit, may_leave, head_ready, candidate, unmarked_kind}
use Rattle.rules.specs.Execute.{unmarked, torn, has_room, answer, at_active, undo}
use Rattle.rules.specs.Write.{of_rank, raise, spend, send_head, send_from, send_by, send}
use Rattle.rules.specs.Visits.{accepting, noted_kind, noted}
use Rattle.rules.specs.Connections.{connection_of}
use Rattle.theory.specs.Invariant.{Sendable}

-- ---- a wire
module _ (pl : Plan) (o : Output) (s : State) where
  -- An empty wire delivers nothing.
  pub deliver_none : s.links.wire o ≡ Empty → deliver pl o s ≡ s
  unfolding deliver arrive
  deliver_none e = ap (λ (v : Wire). arrive pl o v s) e

  -- A full wire's packet joins its next queue, and the wire empties.
  pub deliver_one : (x : Packet) (y : Queue) → s.links.wire o ≡ Full x → next_by pl o x ≡ some y
      → deliver pl o s ≡ arrived y x (with_wire o Empty s)
  unfolding deliver arrive
  deliver_one x y e n =
      ap (λ (v : Wire). arrive pl o v s) e ∙ ap (λ (q : Option Queue). join_next q x (with_wire o Empty s)) n

-- ---- a unit
-- the side by which the walk of a packet's pair leaves router r
abbrev pub exit_at : Plan → ℕ → Packet → ℕ
exit_at pl r x = route_to pl (passive x.passive) r

-- its entry is neither booked nor the only free one of that side
abbrev pub may_book_at : Plan → ℕ → State → Packet → Bool
may_book_at pl r s x = may_book (S pl) (s.table r (exit_at pl r x)) x.slot.0

-- the states that a unit's turn leaves: a set-up has booked
abbrev pub after_booked : Plan → ℕ → ℕ → Packet → List Packet → State → State
after_booked pl r i x rest s = handled_as r i (booked (S pl) x) rest
    (with_entry r (exit_at pl r x) x.slot.0 (Booked (came_in pl x.active x.passive r)) s)

-- a tear-down has freed an entry and goes on
abbrev pub after_freed : Plan → ℕ → ℕ → Packet → List Packet → State → State
after_freed pl r i x rest s = handled_as r i (freed (S pl) x) rest (with_entry r (exit_at pl r x) x.slot.0 Free s)

-- a tear-down has freed its last entry and ended
abbrev pub after_ended : Plan → ℕ → ℕ → Packet → List Packet → State → State
after_ended pl r i x rest s = with_flag (Q r i) true (with_queue (Q r i) rest (with_entry r (exit_at pl r x)
    x.slot.0 Free s))

module _ (pl : Plan) (r i : ℕ) (s : State) where
  -- A unit without a packet does nothing.
  pub unit_empty : s.lines.queue (Q r i) ≡ [] → unit pl r i s ≡ s
  unfolding unit at_unit
  unit_empty e = ap (λ (l : List Packet). at_unit pl r i l (s.lines.handled (Q r i)) s) e

  module _ (x : Packet) (rest : List Packet) (e : s.lines.queue (Q r i) ≡ x ∷ rest) where
    -- A handled head is left alone.
    pub unit_handled : s.lines.handled (Q r i) ≡ true → unit pl r i s ≡ s
    unfolding unit at_unit
    unit_handled t = ap₂ (λ (l : List Packet) (b : Bool). at_unit pl r i l b s) e t

    by_kind : (k : Kind) → s.lines.handled (Q r i) ≡ false → x.kind ≡ k
        → unit pl r i s ≡ handle pl r i (exit_at pl r x) k x rest s
    unfolding unit at_unit
    by_kind k f q = ap₂ (λ (l : List Packet) (b : Bool). at_unit pl r i l b s) e f
        ∙ ap (λ (c : Kind). handle pl r i (exit_at pl r x) c x rest s) q

    -- A set-up whose entry may be booked books it.
    pub unit_books : s.lines.handled (Q r i) ≡ false → x.kind ≡ Setup → may_book_at pl r s x ≡ true
        → unit pl r i s ≡ after_booked pl r i x rest s
    unfolding handle set_up
    unit_books f q t = by_kind Setup f q ∙ ap (λ (b : Bool). set_up pl r i (exit_at pl r x) x rest b s) t

    -- Another set-up is declined.
    pub unit_declines : s.lines.handled (Q r i) ≡ false → x.kind ≡ Setup → may_book_at pl r s x ≡ false
        → unit pl r i s ≡ handled_as r i (declined x) rest s
    unfolding handle set_up
    unit_declines f q t = by_kind Setup f q ∙ ap (λ (b : Bool). set_up pl r i (exit_at pl r x) x rest b s) t

    -- A tear-down with hub 1 frees its entry and ends.
    pub unit_ends : s.lines.handled (Q r i) ≡ false → x.kind ≡ Tdown → eqb x.hub.0 1 ≡ true
        → unit pl r i s ≡ after_ended pl r i x rest s
    unfolding handle tear_down tear_one
    unit_ends f q t = by_kind Tdown f q
        ∙ ap (λ (b : Bool). tear_one pl r i x rest b (with_entry r (exit_at pl r x) x.slot.0 Free s)) t

    -- Another tear-down frees its entry.
    pub unit_frees : s.lines.handled (Q r i) ≡ false → x.kind ≡ Tdown → eqb x.hub.0 1 ≡ false
        → unit pl r i s ≡ after_freed pl r i x rest s
    unfolding handle tear_down tear_one
    unit_frees f q t = by_kind Tdown f q
        ∙ ap (λ (b : Bool). tear_one pl r i x rest b (with_entry r (exit_at pl r x) x.slot.0 Free s)) t

  -- a unit's turn: nothing, or one of four things done to its unhandled head
  pub data UnitDoes : Type 0 where
    rests : unit pl r i s ≡ s → UnitDoes
    books : (x : Packet) (rest : List Packet) → s.lines.queue (Q r i) ≡ x ∷ rest → s.lines.handled (Q r i) ≡ false
        → x.kind ≡ Setup → may_book_at pl r s x ≡ true → UnitDoes
    declines : (x : Packet) (rest : List Packet) → s.lines.queue (Q r i) ≡ x ∷ rest → s.lines.handled (Q r i)
        ≡ false
        → x.kind ≡ Setup → may_book_at pl r s x ≡ false → UnitDoes
    ends : (x : Packet) (rest : List Packet) → s.lines.queue (Q r i) ≡ x ∷ rest → s.lines.handled (Q r i) ≡ false
        → x.kind ≡ Tdown → eqb x.hub.0 1 ≡ true → UnitDoes
    frees : (x : Packet) (rest : List Packet) → s.lines.queue (Q r i) ≡ x ∷ rest → s.lines.handled (Q r i) ≡ false
        → x.kind ≡ Tdown → eqb x.hub.0 1 ≡ false → UnitDoes

  -- Every turn of a unit is one of these.
  pub unit_does : UnitDoes
  unfolding handle
  unit_does = by (s.lines.queue (Q r i)) refl (test (s.lines.handled (Q r i)))
    where
      of_kind : (x : Packet) (rest : List Packet) → s.lines.queue (Q r i) ≡ x ∷ rest → s.lines.handled (Q r i)
          ≡ false
          → (k : Kind) → x.kind ≡ k → (b : Bool) → may_book_at pl r s x ≡ b → (c : Bool) → eqb x.hub.0 1 ≡ c
          → UnitDoes
      of_kind x rest e f Setup q true t c u = books x rest e f q t
      of_kind x rest e f Setup q false t c u = declines x rest e f q t
      of_kind x rest e f Tdown q b t true u = ends x rest e f q u
      of_kind x rest e f Tdown q b t false u = frees x rest e f q u
      of_kind x rest e f Ack q b t c u = rests (by_kind x rest e Ack f q)
      of_kind x rest e f Nack q b t c u = rests (by_kind x rest e Nack f q)

      by : (l : List Packet) → s.lines.queue (Q r i) ≡ l
          → (s.lines.handled (Q r i) ≡ true) ⊎ (s.lines.handled (Q r i) ≡ false) → UnitDoes
      by [] e c = rests (unit_empty e)
      by (x ∷ rest) e (inl t) = rests (unit_handled x rest e t)
      by (x ∷ rest) e (inr f) = of_kind x rest e f x.kind refl (may_book_at pl r s x) refl (eqb x.hub.0 1) refl

-- ---- an active
-- An unmarked packet is a NACK with a hub.
pub unmarked_kind_lem : (kind : Kind) (hub : ℕ) → unmarked_kind kind hub ≡ true → (kind ≡ Nack) × (1 ≤ hub)
unmarked_kind_lem Setup hub t = absurd (false≢true t)
unmarked_kind_lem Tdown hub t = absurd (false≢true t)
unmarked_kind_lem Ack hub t = absurd (false≢true t)
unmarked_kind_lem Nack hub t = let n : hub ≡ 0 → ⊥ = eqb-false hub 0 (not-true (eqb hub 0) t) in (refl, omega arith)

pub unmarked_nack : (x : Packet) → unmarked x ≡ true → x.kind ≡ Nack
unmarked_nack x u = (unmarked_kind_lem x.kind x.hub.0 u).0

module _ (pl : Plan) (a : ℕ) (s : State) where
  -- An unmarked NACK is torn down where the out-queue has room.
  pub undo_tears : (x : Packet) (rest : List Packet) → s.lines.queue (active_in a) ≡ x ∷ rest → unmarked x ≡ true
      → has_room pl (active_out a) s ≡ true → undo pl a s ≡ torn pl a x rest s
  unfolding undo at_active answer
  undo_tears x rest e u h =
      ap (λ (l : List Packet). at_active pl a l s) e ∙ ap₂ (λ (b c : Bool). answer pl a x rest (b && c) s) u h

  -- an active's turn
  pub data ActiveDoes : Type 0 where
    waits : undo pl a s ≡ s → ActiveDoes
    tears : (x : Packet) (rest : List Packet) → s.lines.queue (active_in a) ≡ x ∷ rest → unmarked x ≡ true
        → has_room pl (active_out a) s ≡ true → ActiveDoes

  -- An active does nothing, or tears down what was declined.
  pub undo_does : ActiveDoes
  unfolding undo at_active answer
  undo_does = by (s.lines.queue (active_in a)) refl
    where
      at : (x : Packet) (rest : List Packet) → s.lines.queue (active_in a) ≡ x ∷ rest → (b : Bool) → unmarked x ≡ b
          → (c : Bool) → has_room pl (active_out a) s ≡ c → ActiveDoes
      at x rest e true u true h = tears x rest e u h
      at x rest e true u false h = waits
          (ap (λ (l : List Packet). at_active pl a l s) e ∙ ap₂ (λ (b c : Bool). answer pl a x rest (b && c) s) u h)
      at x rest e false u c h = waits (ap (λ (l : List Packet). at_active pl a l s) e
          ∙ ap (λ (b : Bool). answer pl a x rest (b && has_room pl (active_out a) s) s) u)

      by : (l : List Packet) → s.lines.queue (active_in a) ≡ l → ActiveDoes
      by [] e = waits (ap (λ (l : List Packet). at_active pl a l s) e)
      by (x ∷ rest) e = at x rest e (unmarked x) refl (has_room pl (active_out a) s) refl

-- ---- a sending
-- an output's choice is cleared, and the sender of rank k is the one that it remembers
abbrev pub turn_taken : Output → ℕ → State → State
turn_taken o k s = with_last_sender o k (with_choice o nobody s)

module _ (pl : Plan) (o : Output) (s : State) where
  -- a candidate's head, which may leave, and its next queue, which has credit
  pub record Heads (q : Queue) : Type 0 where
    pub packet : Packet
    pub rest : List Packet
    pub line : s.lines.queue q ≡ packet ∷ rest
    pub leaves : may_leave s q ≡ true
    pub onto : Queue
    pub next : next_by pl o packet ≡ some onto
    pub credit : ltb 0 (s.flow.credit onto).0 ≡ true

  -- A candidate has them.
  pub candidate_heads : (q : Queue) → candidate pl s o q ≡ true → Heads q
  unfolding candidate
  candidate_heads q c = by (s.lines.queue q) refl c
    where
      to : (x : Packet) (rest : List Packet) → s.lines.queue q ≡ x ∷ rest → may_leave s q ≡ true → (y : Option Queue)
          → next_by pl o x ≡ y → has_credit s y ≡ true → Heads q
      to x rest e m none n h = absurd (false≢true h)
      to x rest e m (some y) n h =
          record { packet = x; rest = rest; line = e; leaves = m; onto = y; next = n; credit = h }

      by : (l : List Packet) → s.lines.queue q ≡ l → head_ready pl s o (may_leave s q) l ≡ true → Heads q
      by [] e h = absurd (false≢true h)
      by (x ∷ rest) e h =
          let b = also_true {a = may_leave s q} {b = has_credit s (next_by pl o x)} h in
          to x rest e b.0 (next_by pl o x) refl b.1

  -- the state that a sending leaves
  abbrev pub after_sent : ℕ → Queue → Queue → Packet → List Packet → State
  after_sent k q y x rest = turn_taken o k (with_wire o (Full x) (spend (some y) (raise q (with_queue q rest s))))

  -- Nobody was picked: nothing is sent.
  pub send_nobody : s.links.choice o ≡ nobody → send pl o s ≡ s
  unfolding send send_by
  send_nobody e = ap (λ (c : Choice). send_by pl o c s) e

  -- A picked candidate's head enters the wire.
  pub send_one : (k : ℕ) (q : Queue) → s.links.choice o ≡ sender k → of_rank (senders o) k ≡ some q → (h : Heads q)
      → send pl o s ≡ after_sent k q h.onto h.packet h.rest
  unfolding send send_by send_head
  send_one k q e r h =
      ap (λ (c : Choice). send_by pl o c s) e
      ∙ ap (λ (z : Option Queue). turn_taken o k (send_from pl o z s)) r
      ∙ ap (λ (l : List Packet). turn_taken o k (send_head pl o q l s)) h.line
      ∙ ap (λ (z : Option Queue).
      turn_taken o k (with_wire o (Full h.packet) (spend z (raise q (with_queue q h.rest s))))) h.next

  -- an output's turn in WRITE
  pub data SendDoes : Type 0 where
    none_sent : send pl o s ≡ s → SendDoes
    sent : (k : ℕ) (q : Queue) → s.links.choice o ≡ sender k → of_rank (senders o) k ≡ some q → Heads q → SendDoes

  -- An output whose choice can be sent sends nothing, or a candidate's head.
  pub send_does : ((k : ℕ) → s.links.choice o ≡ sender k → Sendable pl s o k) → SendDoes
  send_does ready = by (s.links.choice o) refl
    where
      by : (c : Choice) → s.links.choice o ≡ c → SendDoes
      by nobody e = none_sent (send_nobody e)
      by (sender k) e = let d = ready k e in sent k d.queue e d.rank (candidate_heads d.queue d.ready)

-- ---- a Drop's packet
-- What a dropped packet notes keeps what the setting of an ACK's connection keeps: any other packet notes nothing.
pub noted_keeps : (pl : Plan) (x : Packet) (s : State) (P : State → Type 0)
    → (x.kind ≡ Ack → P (accepting (connection_of pl x) s)) → P s → P (noted pl x s)
unfolding noted
noted_keeps pl x s P set old = by x.kind refl
  where
    by : (k : Kind) → x.kind ≡ k → P (noted_kind pl k x s)
    by Setup e = old
    by Tdown e = old
    by Ack e = set e
    by Nack e = old
