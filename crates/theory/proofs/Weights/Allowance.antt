-- 'An active's allowance + its SETUPs, ACKs and NACKs' stays its start allowance: in every step of the rules. Its
-- packets are weighed: one for each set-up and answer, nothing for a tear-down, wherever they are.
use mathlib.Core.Path.{◌≡◌, refl, sym, ap, ap₂, subst, ◌∙◌}
use mathlib.Core.Logic.{◌⊎◌, inl, inr}
use mathlib.Core.Bool.{Bool, true, false}
use mathlib.Core.List.{List, ◌∷◌}
use mathlib.Core.Option.{some}
use Prim.Native.Nat.{ℕ, ◌+◌, ◌-◌, ◌≤◌, ◌<◌}
use native.Mathlib.Omega.{arith}
use lib.Dec.{eqb}
use Rattle.basis.specs.Choice.{pick}
use Rattle.kinds.specs.declared.Slot.{Slot}
use Rattle.packets.specs.declared.Kind.{Kind}
use Rattle.packets.specs.declared.Kind.TheVariants.{Ack, Nack}
use Rattle.packets.specs.declared.Packet.{Packet}
use Rattle.packets.specs.declared.Phase.{Phase}
use Rattle.packets.specs.declared.Wire.{Wire}
use Rattle.packets.specs.declared.Wire.TheVariants.{Empty, Full}
use Rattle.plan.specs.Plan.{Plan, R, A, P, S}
use Rattle.plan_queues.specs.Queue.{Queue, active_in, passive_in}
use Rattle.plan_queues.specs.Feeds.{Output}
use Rattle.plan_facts.specs.Wired.{Wired}
use Rattle.rules.specs.Store.{put, same_output}
use Rattle.rules.specs.Outputs.{next_by}
use Rattle.rules.specs.State.{State, Links, sender, blank, start, with_phase, with_slot, with_connection, with_queue}
use Rattle.rules.specs.State.{join}
use Rattle.rules.specs.Read.{deliver, lower, settle}
use Rattle.rules.specs.Execute.{declined, unit, tdown_of, choose, undo}
use Rattle.rules.specs.Write.{send}
use Rattle.rules.specs.Visits.{launched, replied_as, replied, removed, noted, closing_of, closed}
use Rattle.rules.specs.Valid.{Drives, Carries, spends_kind, spends}
use Rattle.rules.proofs.Apart.{full_not}
use Rattle.theory.specs.Invariant.{Core, Sendable, Allowances}
use Rattle.theory.proofs.Places.Closure.{passive_setup, active_answer}
use Rattle.theory.proofs.Places.Senders.{raise_links, raise_allowance}
use Rattle.theory.proofs.Cases.{deliver_none, deliver_one, UnitDoes, rests, books, declines, ends, frees}
use Rattle.theory.proofs.Cases.{unit_does, unit_books, unit_declines, unit_ends, unit_frees, ActiveDoes, waits}
use Rattle.theory.proofs.Cases.{tears, undo_does, undo_tears, SendDoes, none_sent, sent, send_does, send_one}
use Rattle.theory.proofs.Cases.{noted_keeps}
use Rattle.theory.specs.Weights.{anywhere, weighed}
use Rattle.theory.proofs.Weights.Total.{Bound, weighed_total, core_bound, weighed_plain, start_weighed}
use Rattle.theory.proofs.Weights.Total.{bound_put}
use Rattle.theory.proofs.Weights.Moves.{core_head, phase_weighed, slot_weighed, connection_weighed}
use Rattle.theory.proofs.Weights.Moves.{settle_weighed, choose_weighed, deliver_weighed, send_weighed}
use Rattle.theory.proofs.Weights.Changes.{booked_weighed, declined_weighed, freed_weighed, ended_weighed}
use Rattle.theory.proofs.Weights.Changes.{torn_weighed, launched_weighed, closed_weighed, replied_weighed}
use Rattle.theory.proofs.Weights.Changes.{removed_weighed}
use Rattle.theory.proofs.Weights.Spending.{tdown_spends, kinds_spend, mine, fallen, grown}

-- Start has every allowance whole.
pub start_allowances : (pl : Plan) → Allowances pl (start pl)
unfolding start blank
start_allowances pl a h =
    let all = weighed_total pl (spends a) (start pl) (λ o d x e. absurd (full_not e)) in
    let none = start_weighed pl (anywhere (spends a)) in
    omega arith

module _ {pl : Plan} {s : State} (c : Core pl s) where
  -- Where allowance and weight together stay, the law stays.
  pub allowances_from : (t : State) → Bound pl t → ((a : ℕ) → a < A pl → t.flow.allowance a + weighed pl
      (anywhere (spends a)) t ≡ s.flow.allowance a + weighed pl (anywhere (spends a)) s) → Allowances pl t
  allowances_from t b e a h =
      let old = weighed_plain pl (spends a) s c in
      let new = weighed_total pl (spends a) t b in
      let was = c.allowances a h in
      let same = e a h in
      omega arith

  -- Where wires and allowances are as they were, the weights decide.
  pub allowances_kept : (t : State) → t.links.wire ≡ s.links.wire → t.flow.allowance ≡ s.flow.allowance
      → ((a : ℕ) → weighed pl (anywhere (spends a)) t ≡ weighed pl (anywhere (spends a)) s) → Allowances pl t
  allowances_kept t e f k =
      allowances_from t (λ o d x q. core_bound pl s c o d x (sym (ap (λ (m : Output → Wire). m o) e) ∙ q))
      (λ a h. ap₂ (λ (m n : ℕ). m + n) (ap (λ (m : ℕ → ℕ). m a) f) (k a))

  -- The phase does not matter.
  pub phase_allowances : (x : Phase) → Allowances pl (with_phase x s)
  phase_allowances x = allowances_kept (with_phase x s) refl refl (λ a. phase_weighed pl (anywhere (spends a)) x s)

  -- The slot does not matter.
  pub slot_allowances : (x : Slot) → Allowances pl (with_slot x s)
  slot_allowances x = allowances_kept (with_slot x s) refl refl (λ a. slot_weighed pl (anywhere (spends a)) x s)

  -- The connections do not matter.
  pub connection_allowances : (a p t : ℕ) (x : Bool) → Allowances pl (with_connection a p t x s)
  connection_allowances a p t x = allowances_kept (with_connection a p t x s) refl refl
      (λ b. connection_weighed pl (anywhere (spends b)) a p t x s)

  -- ---- READ
  -- A delivery keeps the allowances.
  pub deliver_allowances : Wired pl → (o : Output) → Drives pl o → Allowances pl (deliver pl o s)
  unfolding join
  deliver_allowances wired o d = by (s.links.wire o) refl
    where
      by : (v : Wire) → s.links.wire o ≡ v → Allowances pl (deliver pl o s)
      by Empty e = subst (Allowances pl) (sym (deliver_none pl o s e)) c.allowances
      by (Full x) e =
          let k : Carries pl o x = c.wires o d x e in
          let is = deliver_one pl o s x k.queue e k.next in
          allowances_from (deliver pl o s) (bound_put pl s (deliver pl o s) o Empty (core_bound pl s c)
          (λ x q. absurd (full_not q)) (ap (λ (t : State). t.links.wire) is))
          (λ a h. ap₂ (λ (m n : ℕ). m + n) (ap (λ (t : State). t.flow.allowance a) is)
          (deliver_weighed pl (anywhere (spends a)) wired c o d))

  -- The settling of a flag keeps the allowances.
  pub settle_allowances : (q : Queue) → Allowances pl (settle q s)
  unfolding settle lower
  settle_allowances q = allowances_kept (settle q s) (by (s.flow.flag q)) (on (s.flow.flag q))
      (λ a. settle_weighed pl (anywhere (spends a)) q s)
    where
      by : (b : Bool) → (lower q b s).links.wire ≡ s.links.wire
      by true = refl
      by false = refl

      on : (b : Bool) → (lower q b s).flow.allowance ≡ s.flow.allowance
      on true = refl
      on false = refl

  -- ---- EXECUTE
  -- A unit's turn keeps the allowances.
  pub unit_allowances : (r i : ℕ) → (r < R pl) × (i < 4) → Allowances pl (unit pl r i s)
  unit_allowances r i h = by (unit_does pl r i s)
    where
      changed : (t : State)
          → unit pl r i s ≡ t → t.links.wire ≡ s.links.wire → t.flow.allowance ≡ s.flow.allowance
          → ((a : ℕ) → weighed pl (anywhere (spends a)) (unit pl r i s) ≡ weighed pl (anywhere (spends a)) s)
          → Allowances pl (unit pl r i s)
      changed t is e f k = allowances_kept (unit pl r i s) (ap (λ (u : State). u.links.wire) is ∙ e)
          (ap (λ (u : State). u.flow.allowance) is ∙ f) k

      by : UnitDoes pl r i s → Allowances pl (unit pl r i s)
      by (rests is) = subst (Allowances pl) (sym is) c.allowances
      by (books x rest e f k t) =
          changed _ (unit_books pl r i s x rest e f k t) refl refl
          (λ a. let all = booked_weighed pl (anywhere (spends a)) r i h s x rest e f k t in omega arith)
      by (declines x rest e f k t) =
          changed _ (unit_declines pl r i s x rest e f k t) refl refl
          (λ a. let all = declined_weighed pl (anywhere (spends a)) r i h s x rest e f k t in
          let same = kinds_spend a x (declined x) refl (sym (ap spends_kind k)) in omega arith)
      by (ends x rest e f k t) =
          changed _ (unit_ends pl r i s x rest e f k t) refl refl
          (λ a. let all = ended_weighed pl (anywhere (spends a)) r i h s x rest e f k t in
          let none = tdown_spends a x k in omega arith)
      by (frees x rest e f k t) =
          changed _ (unit_frees pl r i s x rest e f k t) refl refl
          (λ a. let all = freed_weighed pl (anywhere (spends a)) r i h s x rest e f k t in omega arith)

  -- A choice keeps the allowances.
  pub choose_allowances : (o : Output) → Allowances pl (choose pl o s)
  unfolding choose
  choose_allowances o = allowances_kept (choose pl o s) refl refl (λ a. choose_weighed pl (anywhere (spends a)) o s)

  -- An active's tear-down keeps the allowances: the marked NACK still counts, the TDOWN doesn't.
  pub undo_allowances : (a : ℕ) → a < A pl → Allowances pl (undo pl a s)
  unfolding join
  undo_allowances a h = by (undo_does pl a s)
    where
      by : ActiveDoes pl a s → Allowances pl (undo pl a s)
      by (waits is) = subst (Allowances pl) (sym is) c.allowances
      by (tears x rest e u g) =
          let is = undo_tears pl a s x rest e u g in
          allowances_kept (undo pl a s) (ap (λ (t : State). t.links.wire) is)
          (ap (λ (t : State). t.flow.allowance) is)
          (λ b. let all = torn_weighed pl (anywhere (spends b)) c a h x rest e u g in
          let none = tdown_spends b (tdown_of (S pl) x) refl in omega arith)

  -- ---- WRITE
  -- A sending keeps the allowances.
  pub send_allowances : Wired pl → (o : Output)
      → Drives pl o → ((k : ℕ) → s.links.choice o ≡ sender k → Sendable pl s o k) → s.links.wire o ≡ Empty
      → Allowances pl (send pl o s)
  send_allowances wired o d ready z = by (send_does pl o s ready)
    where
      by : SendDoes pl o s → Allowances pl (send pl o s)
      by (none_sent is) = subst (Allowances pl) (sym is) c.allowances
      by (sent k q e r g) =
          let is = send_one pl o s k q e r g in
          allowances_from (send pl o s)
          (bound_put pl s (send pl o s) o (Full g.packet) (core_bound pl s c) onto
          (ap (λ (t : State). t.links.wire) is ∙ ap (λ (l : Links). put same_output l.wire o (Full g.packet))
          (raise_links q (with_queue q g.rest s))))
          (λ a h.
          ap₂ (λ (m n : ℕ). m + n)
          (ap (λ (t : State). t.flow.allowance a) is
          ∙ ap (λ (m : ℕ → ℕ). m a) (raise_allowance q (with_queue q g.rest s)))
          (send_weighed pl (anywhere (spends a)) wired c o d (λ u i p y x l m n v. refl) ready z))
        where
          onto : (x : Packet) → Full g.packet ≡ Full x → (y : Queue) × (next_by pl o x ≡ some y)
          onto x p =
              let same : g.packet ≡ x = cc in
              (g.onto, subst (λ (v : Packet). next_by pl o v ≡ some g.onto) same g.next)

  -- ---- the calls
  -- A launch takes one of the allowance for its set-up.
  pub launched_allowances : (a p t : ℕ) → a < A pl → 1 ≤ s.flow.allowance a → Allowances pl (launched a p t s)
  unfolding launched join
  launched_allowances a p t h l =
      allowances_from (launched a p t s) (core_bound pl s c)
      (λ b k.
      let all = launched_weighed pl (anywhere (spends b)) c a p t h in
      let now = fallen s.flow.allowance a b (s.flow.allowance a - 1) (omega arith) in
      omega arith)

  -- A close costs none: a tear-down takes nothing.
  pub closed_allowances : (a p t : ℕ) → a < A pl → Allowances pl (closed pl a p t s)
  unfolding closed join
  closed_allowances a p t h =
      allowances_kept (closed pl a p t s) refl refl
      (λ b. let all = closed_weighed pl (anywhere (spends b)) c a p t h in
      let none = tdown_spends b (closing_of pl a p t) refl in omega arith)

  -- What a dropped packet notes keeps the allowances.
  pub noted_allowances : (x : Packet) → Allowances pl (noted pl x s)
  noted_allowances x = noted_keeps pl x s (Allowances pl)
      (λ e. connection_allowances x.active x.passive _ true) c.allowances

  -- A reply keeps the allowances: an answer for the set-up.
  pub replied_allowances : Wired pl → (p : ℕ) → p < P pl → (k : Kind) → spends_kind k ≡ 1 → (x : Packet)
      (rest : List Packet) → s.lines.queue (passive_in p) ≡ x ∷ rest → Allowances pl (replied p k (x ∷ rest) s)
  unfolding join
  replied_allowances wired p h k one x rest e =
      let b = core_head c (passive_in p) h x rest e in
      let setup = (passive_setup wired x.active x.passive b.ranges.active b.ranges.passive b.serves
      x.kind x.hub.0 p b.fits).0 in
      allowances_kept (replied p k (x ∷ rest) s) refl refl
      (λ a. let all = replied_weighed pl (anywhere (spends a)) c p h k x rest e in
      let same = kinds_spend a x (replied_as k x) refl (one ∙ sym (ap spends_kind setup)) in omega arith)

  -- A removed answer gives one back.
  pub removed_allowances : Wired pl → (a : ℕ) → a < A pl → (x : Packet) (rest : List Packet)
      → s.lines.queue (active_in a) ≡ x ∷ rest → Allowances pl (removed a rest s)
  unfolding removed
  removed_allowances wired a h x rest e =
      allowances_from (removed a rest s) (core_bound pl s c)
      (λ b k.
      let all = removed_weighed pl (anywhere (spends b)) s a h x rest e in
      let now = grown s.flow.allowance a b (s.flow.allowance a + 1) refl in
      let one = weight b in
      omega arith)
    where
      own : (a ≡ x.active) × (spends_kind x.kind ≡ 1)
      own =
          let b = core_head c (active_in a) h x rest e in
          let f = active_answer wired x.active x.passive b.ranges.active b.ranges.passive b.serves
          x.kind x.hub.0 a b.fits in
          (f.0, kind f.2)
        where
          kind : (x.kind ≡ Ack) ⊎ (x.kind ≡ Nack) → spends_kind x.kind ≡ 1
          kind (inl q) = ap spends_kind q
          kind (inr q) = ap spends_kind q

      weight : (b : ℕ) → spends b x ≡ mine a b
      weight b = ap₂ (λ (m n : ℕ). pick (eqb m b) n 0) (sym own.0) own.1
