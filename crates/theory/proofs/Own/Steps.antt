-- The steps that leave the table keep every entry owned: READ, choices, WRITE, tear-downs at an active, and the calls.
use mathlib.Core.Path.{◌≡◌, refl, sym, ap, subst, ◌∙◌}
use mathlib.Core.Logic.{◌⊎◌, inl, inr}
use mathlib.Core.Bool.{Bool, true, false}
use mathlib.Core.List.{List, [], ◌∷◌}
use mathlib.Core.Option.{none}
use Prim.Native.Nat.{ℕ, ◌+◌, ◌<◌}
use native.Mathlib.Omega.{arith}
use lib.Dec.{eqb}
use borrow.Author.Tests.{eqb-true, not-false}
use Rattle.basis.specs.Among.{In}
use Rattle.kinds.specs.declared.Slot.{Slot}
use Rattle.packets.specs.declared.Kind.{Kind}
use Rattle.packets.specs.declared.Kind.TheVariants.{Setup, Ack, Nack}
use Rattle.packets.specs.declared.Packet.{Packet}
use Rattle.packets.specs.declared.Phase.{Phase}
use Rattle.packets.specs.declared.Wire.TheVariants.{Empty}
use Rattle.packets.specs.declared.Entry.{Entry}
use Rattle.packets.specs.Counters.{start_slot}
use Rattle.plan.specs.Plan.{Plan, R, A, P, S}
use Rattle.plan_queues.specs.Queue.{Queue, active_out, active_in, passive_in, passive_out}
use Rattle.plan_queues.specs.Feeds.{Output, in_queue}
use Rattle.plan_facts.specs.Wired.{Wired}
use Rattle.rules.specs.State.{State, sender, blank, start, with_phase, with_slot, with_connection, join}
use Rattle.rules.specs.Read.{deliver, settle}
use Rattle.rules.specs.Execute.{choose, unmarked, undo}
use Rattle.rules.specs.Write.{send}
use Rattle.rules.specs.Visits.{launched, replied, removed, noted}
use Rattle.rules.specs.Connections.{Connection, connection_of}
use Rattle.rules.specs.Accepted.{accept_kind}
use Rattle.rules.specs.Valid.{Belongs, Drives}
use Rattle.theory.proofs.Places.Closure.{passive_setup, active_answer}
use Rattle.theory.specs.Invariant.{Core, Sendable}
use Rattle.theory.specs.Weights.{weighed}
use Rattle.theory.proofs.Weights.Total.{start_weighed}
use Rattle.theory.proofs.Cases.{unmarked_nack, ActiveDoes, waits, tears, undo_does, noted_keeps}
use Rattle.theory.proofs.Weights.Moves.{core_head, phase_weighed, slot_weighed, connection_weighed}
use Rattle.theory.proofs.Weights.Moves.{settle_weighed, choose_weighed, deliver_weighed, send_weighed}
use Rattle.theory.proofs.Weights.Changes.{torn_weighed, launched_weighed, replied_weighed, removed_weighed}
use Rattle.theory.proofs.Places.Slots.{start_below}
use Rattle.theory.specs.Owners.{Holder, owning, owns_up, owns, owns_made, made, holds, Agreed, Owned}
use Rattle.theory.proofs.Own.Same.{table_apart, deliver_leaves, settle_leaves, choose_leaves, send_leaves}
use Rattle.theory.proofs.Own.Same.{undo_leaves}
use Rattle.theory.proofs.Own.Packets.{fits_as, owns_of, up_none, launched_owns, replied_owns, torn_owns}
use Rattle.theory.proofs.Own.Packets.{owns_steady}

-- A state with the same table and the same weights is owned alike.
pub owned_same : {pl : Plan} {acc : List Connection} (s t : State) → Owned pl acc s → t.table ≡ s.table
    → ((r o u : ℕ) (v : Holder) → weighed pl (owns pl r o u v) t ≡ weighed pl (owns pl r o u v) s) → Owned pl acc t
owned_same {pl} {acc} s t k e w =
    record {
      holders = k.holders;
      entries = λ r o u hr ho hu. ap (λ (m : ℕ → ℕ → ℕ → Entry). m r o u) e ∙ k.entries r o u hr ho hu;
      owners = λ r o u hr ho hu v. ap (λ (n : ℕ). n + made pl r o u v acc) (w r o u v) ∙ k.owners r o u hr ho hu v;
      agreed = k.agreed;
    }

-- Start is owned: nothing is booked, and there is no packet.
pub start_owned : (pl : Plan) → Owned pl [] (start pl)
unfolding start blank made
start_owned pl =
    record {
      holders = λ r o t. none;
      entries = λ r o t hr ho ht. refl;
      owners = λ r o t hr ho ht v. ap (λ (n : ℕ). n + 0) (start_weighed pl (owns pl r o t v));
      agreed = λ c i. absurd i;
    }

module _ {pl : Plan} {acc : List Connection} (s : State) (k : Owned pl acc s) where
  -- A phase keeps the ownership.
  pub phase_owned : (x : Phase) → Owned pl acc (with_phase x s)
  phase_owned x = owned_same s (with_phase x s) k refl (λ r o u v. phase_weighed pl (owns pl r o u v) x s)

  -- So does a slot.
  pub slot_owned : (x : Slot) → Owned pl acc (with_slot x s)
  slot_owned x = owned_same s (with_slot x s) k refl (λ r o u v. slot_weighed pl (owns pl r o u v) x s)

  -- So does a connection set or cleared.
  pub connection_owned : (a p t : ℕ) (x : Bool) → Owned pl acc (with_connection a p t x s)
  connection_owned a p t x = owned_same s (with_connection a p t x s) k refl
      (λ r o u v. connection_weighed pl (owns pl r o u v) a p t x s)

  -- So does what a dropped packet notes.
  pub noted_owned : (x : Packet) → Owned pl acc (noted pl x s)
  noted_owned x = noted_keeps pl x s (Owned pl acc) (λ e. connection_owned x.active x.passive _ true) k

  -- So does the settling of a flag.
  pub settle_owned : (q : Queue) → Owned pl acc (settle q s)
  settle_owned q = owned_same s (settle q s) k (settle_leaves table_apart pl s q)
      (λ r o u v. settle_weighed pl (owns pl r o u v) q s)

  -- So does a choice.
  pub choose_owned : (o : Output) → Owned pl acc (choose pl o s)
  choose_owned w = owned_same s (choose pl w s) k (choose_leaves table_apart pl s w)
      (λ r o u v. choose_weighed pl (owns pl r o u v) w s)

module _ {pl : Plan} (wired : Wired pl) {acc : List Connection} (s : State) (c : Core pl s) (k : Owned pl acc s) where
  -- A delivery keeps the ownership.
  pub deliver_owned : (w : Output) → Drives pl w → Owned pl acc (deliver pl w s)
  deliver_owned w d = owned_same s (deliver pl w s) k (deliver_leaves table_apart pl s w)
      (λ r o u v. deliver_weighed pl (owns pl r o u v) wired c w d)

  -- So does a sending.
  pub send_owned : (w : Output) → Drives pl w → ((n : ℕ) → s.links.choice w ≡ sender n → Sendable pl s w n)
      → s.links.wire w ≡ Empty → Owned pl acc (send pl w s)
  send_owned w d ready z = owned_same s (send pl w s) k (send_leaves table_apart pl s (λ x t. refl) w)
      (λ r o u v. send_weighed pl (owns pl r o u v) wired c w d (owns_steady pl r o u v wired) ready z)

  -- So does an active that tears down: the tear-down owns what the NACK owned.
  pub undo_owned : (a : ℕ) → a < A pl → Owned pl acc (undo pl a s)
  undo_owned a h = owned_same s (undo pl a s) k (undo_leaves table_apart pl s a)
      (λ r o u v. by r o u v (undo_does pl a s))
    where
      by : (r o u : ℕ) (v : Holder) → ActiveDoes pl a s
          → weighed pl (owns pl r o u v) (undo pl a s) ≡ weighed pl (owns pl r o u v) s
      by r o u v (waits e) = ap (weighed pl (owns pl r o u v)) e
      by r o u v (tears x rest e m g) =
          let b = core_head c (active_in a) h x rest e in
          let all = torn_weighed pl (owns pl r o u v) c a h x rest e m g in
          let one = torn_owns pl r o u v a (in_queue (active_in a)) (in_queue (active_in a)) x (unmarked_nack x m)
          b.ranges.slot in
          omega arith

  -- So does a Launch: with hub 0 the set-up owns nothing.
  pub launched_owned : (a p t : ℕ) → a < A pl → Owned pl acc (launched a p t s)
  unfolding launched join
  launched_owned a p t h = owned_same s (launched a p t s) k refl (λ r o u v. by r o u v)
    where
      by : (r o u : ℕ) (v : Holder) → weighed pl (owns pl r o u v) (launched a p t s) ≡ weighed pl (owns pl r o u v) s
      by r o u v =
          let all = launched_weighed pl (owns pl r o u v) c a p t h in
          let none = launched_owns pl r o u v (in_queue (active_out a)) a p t in
          omega arith

  -- So does a Reply: slot and hub are kept.
  pub replied_owned : (p : ℕ) (kind : Kind) (x : Packet) (rest : List Packet) → p < P pl → (kind ≡ Ack) ⊎ (kind ≡ Nack)
      → s.lines.queue (passive_in p) ≡ x ∷ rest → Owned pl acc (replied p kind (x ∷ rest) s)
  unfolding join
  replied_owned p kind x rest h q e = owned_same s (replied p kind (x ∷ rest) s) k refl (λ r o u v. same r o u v)
    where
      b : Belongs pl (in_queue (passive_in p)) x
      b = core_head c (passive_in p) h x rest e

      setup : x.kind ≡ Setup
      setup = (passive_setup wired x.active x.passive b.ranges.active b.ranges.passive b.serves
          x.kind x.hub.0 p b.fits).0

      same : (r o u : ℕ) (v : Holder)
          → weighed pl (owns pl r o u v) (replied p kind (x ∷ rest) s) ≡ weighed pl (owns pl r o u v) s
      same r o u v =
          let all = replied_weighed pl (owns pl r o u v) c p h kind x rest e in
          let one = replied_owns pl r o u v (in_queue (passive_in p)) (in_queue (passive_out p)) kind x q setup in
          omega arith

  -- So does a Drop: what an ACK owned the accepted connection owns, and a marked NACK owned nothing.
  pub removed_owned : (a : ℕ) (x : Packet) (rest : List Packet) → a < A pl → s.lines.queue (active_in a) ≡ x ∷ rest
      → unmarked x ≡ false → Owned pl (accept_kind pl x.kind x acc) (removed a rest s)
  unfolding removed made owns_made
  removed_owned a x rest h e m = by (active_answer wired x.active x.passive b.ranges.active
      b.ranges.passive b.serves x.kind x.hub.0 a b.fits).2
    where
      b : Belongs pl (in_queue (active_in a)) x
      b = core_head c (active_in a) h x rest e

      agrees : Agreed pl (connection_of pl x)
      agrees =
          record {
            active = b.ranges.active;
            passive = b.ranges.passive;
            serves = b.serves;
            start = start_below (S pl) x.slot x.hub (let l = b.ranges.slot in omega arith);
          }

      known : (d : Connection) → (d ≡ connection_of pl x) ⊎ In d acc → Agreed pl d
      known d (inl q) = subst (Agreed pl) (sym q) agrees
      known d (inr i) = k.agreed d i

      accepted : x.kind ≡ Ack → Owned pl (connection_of pl x ∷ acc) (removed a rest s)
      accepted q = record { holders = k.holders; entries = k.entries; owners = owners'; agreed = known }
        where
          owners' : (r o u : ℕ) → r < R pl → o < 4 → u < S pl → (v : Holder)
              → weighed pl (owns pl r o u v) (removed a rest s)
              + (owns_made pl r o u v (connection_of pl x) + made pl r o u v acc) ≡ holds (k.holders r o u) v
          owners' r o u hr ho hu v =
              let all = removed_weighed pl (owns pl r o u v) s a h x rest e in
              let was = owns_of pl r o u v Ack (in_queue (active_in a)) x q in
              let is : owns_up pl r o u v x ≡ owns_made pl r o u v (connection_of pl x) =
              ap (λ (n : ℕ). owning pl r o u v x.active x.passive (start_slot x.slot x.hub (S pl)) 0 n)
              (fits_as Ack q b).1
              in
              let old = k.owners r o u hr ho hu v in
              omega arith

      declined : x.kind ≡ Nack → Owned pl acc (removed a rest s)
      declined q = owned_same s (removed a rest s) k refl (λ r o u v. same r o u v)
        where
          none : x.hub.0 ≡ 0
          none = eqb-true x.hub.0 0 (not-false (eqb x.hub.0 0) (rw q at m))

          same : (r o u : ℕ) (v : Holder)
              → weighed pl (owns pl r o u v) (removed a rest s) ≡ weighed pl (owns pl r o u v) s
          same r o u v =
              let all = removed_weighed pl (owns pl r o u v) s a h x rest e in
              let was = owns_of pl r o u v Nack (in_queue (active_in a)) x q ∙ up_none pl r o u v x none in
              omega arith

      by : (x.kind ≡ Ack) ⊎ (x.kind ≡ Nack) → Owned pl (accept_kind pl x.kind x acc) (removed a rest s)
      by (inl q) = subst (λ (n : Kind). Owned pl (accept_kind pl n x acc) (removed a rest s)) (sym q) (accepted q)
      by (inr q) = subst (λ (n : Kind). Owned pl (accept_kind pl n x acc) (removed a rest s)) (sym q) (declined q)
