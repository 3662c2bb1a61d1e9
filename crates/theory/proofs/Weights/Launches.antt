-- A connection is accepted no more times than it was launched: the Drops that accepted it, closed since or not, and
-- the set-ups and ACKs that are on the way, count against the accepted Launches of the same pair and start slot.
use mathlib.Core.Path.{◌≡◌, refl, sym, ap, ◌∙◌}
use mathlib.Core.Logic.{◌⊎◌, inl, inr}
use mathlib.Core.Bool.{Bool, true, ◌&&◌}
use mathlib.Core.List.{List, ◌∷◌}
use Prim.Native.Nat.{ℕ, ◌+◌, ◌≤◌, ◌<◌}
use native.Mathlib.Omega.{arith}
use lib.Dec.{eqb}
use Rattle.basis.specs.Choice.{pick}
use Rattle.kinds.specs.declared.Slot.{Slot}
use Rattle.packets.specs.declared.Kind.{Kind}
use Rattle.packets.specs.declared.Kind.TheVariants.{Setup, Tdown, Ack, Nack}
use Rattle.packets.specs.declared.Packet.{Packet}
use Rattle.packets.specs.declared.Phase.{Phase}
use Rattle.packets.specs.declared.Wire.TheVariants.{Empty}
use Rattle.packets.specs.declared.Answer.TheVariants.{Done}
use Rattle.plan.specs.Plan.{Plan, R, A, P, S}
use Rattle.plan_queues.specs.Queue.{Queue, active_in, passive_in, Q}
use Rattle.plan_queues.specs.Feeds.{Output}
use Rattle.plan_facts.specs.Wired.{Wired}
use Rattle.rules.specs.State.{State, sender, start, with_phase, with_slot, with_connection}
use Rattle.rules.specs.Read.{deliver, settle}
use Rattle.rules.specs.Execute.{booked, freed, declined, choose, unit, marked, tdown_of, undo}
use Rattle.rules.specs.Write.{send}
use Rattle.rules.specs.Visits.{setup_of, launched, replied_as, replied, removed, noted, closing_of, closed}
use Rattle.rules.specs.Calls.{launch}
use Rattle.rules.specs.Connections.{Connection, connection_of, same_connection}
use Rattle.rules.specs.Ruled.{launches_call, accepts_kind}
use Rattle.rules.specs.Valid.{Drives}
use Rattle.theory.proofs.Places.Closure.{passive_setup}
use Rattle.theory.specs.Invariant.{Core, Sendable}
use Rattle.theory.specs.Weights.{anywhere, weighed}
use Rattle.theory.proofs.Weights.Total.{start_weighed}
use Rattle.theory.proofs.Cases.{UnitDoes, rests, books, declines, ends, frees, unit_does, unmarked_nack}
use Rattle.theory.proofs.Cases.{ActiveDoes, waits, tears, undo_does, noted_keeps}
use Rattle.theory.proofs.Weights.Moves.{core_head, phase_weighed, slot_weighed, connection_weighed}
use Rattle.theory.proofs.Weights.Moves.{settle_weighed, choose_weighed, deliver_weighed, send_weighed}
use Rattle.theory.proofs.Weights.Changes.{booked_weighed, declined_weighed, freed_weighed, ended_weighed}
use Rattle.theory.proofs.Weights.Changes.{torn_weighed, launched_weighed, closed_weighed, replied_weighed}
use Rattle.theory.proofs.Weights.Changes.{removed_weighed}
use Rattle.theory.proofs.Places.Slots.{start_next, start_none}

-- what a packet of a kind bears: of a set-up and an ACK, the connection of its pair and start slot
abbrev pub bears_kind : Plan → Connection → Kind → Packet → ℕ
bears_kind pl d Setup x = pick (same_connection (connection_of pl x) d) 1 0
bears_kind pl d Tdown x = 0
bears_kind pl d Ack x = pick (same_connection (connection_of pl x) d) 1 0
bears_kind pl d Nack x = 0

-- 1 if the packet may come to be the connection d, else 0
unfoldable pub bears : Plan → Connection → Packet → ℕ
bears pl d x = bears_kind pl d x.kind x

-- all packets of a state that may come to be d
unfoldable pub borne : Plan → Connection → State → ℕ
borne pl d s = weighed pl (anywhere (bears pl d)) s

-- accepted m times and on the way, d is found at most n times
pub record Counted (pl : Plan) (d : Connection) (m n : ℕ) (s : State) : Type 0 where
  pub count : m + borne pl d s ≤ n

module _ (pl : Plan) (d : Connection) where
  -- What a packet of a kind bears.
  pub bears_of : (k : Kind) (x : Packet) → x.kind ≡ k → bears pl d x ≡ bears_kind pl d k x
  unfolding bears
  bears_of k x e = ap (λ (k : Kind). bears_kind pl d k x) e

  -- A booked set-up keeps its start slot, and so its connection.
  pub booked_bears : (x : Packet) → x.kind ≡ Setup → x.slot.0 < S pl → bears pl d (booked (S pl) x) ≡ bears pl d x
  booked_bears x e h =
      bears_of Setup (booked (S pl) x) e
      ∙ ap (λ (u : Slot). pick (eqb x.active d.active && eqb x.passive d.passive
      && eqb u.0 d.start.0) 1 0) (start_next (S pl) x.slot x.hub h)
      ∙ sym (bears_of Setup x e)

  -- A launched set-up is the connection of its Launch.
  pub launched_bears : (a p t : ℕ) → t < S pl → bears pl d (setup_of a p t) ≡ launches_call d (launch a p t) Done
  launched_bears a p t h =
      bears_of Setup (setup_of a p t) refl
      ∙ ap (λ (u : Slot). pick (eqb a d.active && eqb p d.passive && eqb u.0 d.start.0) 1 0)
      (start_none (S pl) (record { 0 = t }) h)

  -- An answer is that of its set-up, or none.
  pub replied_bears : (k : Kind) (x : Packet) → (k ≡ Ack) ⊎ (k ≡ Nack) → x.kind ≡ Setup
      → bears pl d (replied_as k x) ≤ bears pl d x
  replied_bears k x (inl q) e = let a = bears_of Ack (replied_as k x) q in let b = bears_of Setup x e in omega arith
  replied_bears k x (inr q) e = let a = bears_of Nack (replied_as k x) q in omega arith

  -- Start has none.
  pub start_counted : Counted pl d 0 0 (start pl)
  unfolding borne
  start_counted = record { count = let z = start_weighed pl (anywhere (bears pl d)) in omega arith }

  module _ {m n : ℕ} where
    -- Accepted are no more than launched.
    pub counted_times : {s : State} → Counted pl d m n s → m ≤ n
    counted_times k = let c = k.count in omega arith

    -- What bears no more is counted alike.
    pub counted_less : (s t : State) → Counted pl d m n s → borne pl d t ≤ borne pl d s → Counted pl d m n t
    counted_less s t k l = record { count = let c = k.count in omega arith }

    same : (s t : State) → Counted pl d m n s → borne pl d t ≡ borne pl d s → Counted pl d m n t
    same s t k e = counted_less s t k (omega arith)

    module _ (s : State) (k : Counted pl d m n s) where
      -- The phase does not matter.
      pub phase_counted : (x : Phase) → Counted pl d m n (with_phase x s)
      unfolding borne
      phase_counted x = same s (with_phase x s) k (phase_weighed pl (anywhere (bears pl d)) x s)

      -- The slot does not matter.
      pub slot_counted : (x : Slot) → Counted pl d m n (with_slot x s)
      unfolding borne
      slot_counted x = same s (with_slot x s) k (slot_weighed pl (anywhere (bears pl d)) x s)

      -- Settling a flag keeps the count.
      pub settle_counted : (q : Queue) → Counted pl d m n (settle q s)
      unfolding borne
      settle_counted q = same s (settle q s) k (settle_weighed pl (anywhere (bears pl d)) q s)

      -- So does a choice.
      pub choose_counted : (o : Output) → Counted pl d m n (choose pl o s)
      unfolding borne
      choose_counted o = same s (choose pl o s) k (choose_weighed pl (anywhere (bears pl d)) o s)

      -- So does a connection set or cleared.
      pub connection_counted : (a p t : ℕ) (x : Bool) → Counted pl d m n (with_connection a p t x s)
      unfolding borne
      connection_counted a p t x =
          same s (with_connection a p t x s) k (connection_weighed pl (anywhere (bears pl d)) a p t x s)

      -- So does what a dropped packet notes.
      pub noted_counted : (x : Packet) → Counted pl d m n (noted pl x s)
      noted_counted x =
          noted_keeps pl x s (Counted pl d m n) (λ e. connection_counted x.active x.passive _ true) k

      -- So does a Drop: an ACK's connection is accepted, and another packet bears none.
      pub removed_counted : (a : ℕ) (x : Packet) (rest : List Packet) → a < A pl
          → s.lines.queue (active_in a) ≡ x ∷ rest
          → Counted pl d (accepts_kind pl d x.kind x + m) n (removed a rest s)
      unfolding borne
      removed_counted a x rest h e = by x.kind refl
        where
          all : borne pl d (removed a rest s) + bears pl d x ≡ borne pl d s
          all = removed_weighed pl (anywhere (bears pl d)) s a h x rest e

          by : (k : Kind) → x.kind ≡ k → Counted pl d (accepts_kind pl d k x + m) n (removed a rest s)
          by Setup q = record { count = let w = all in let c = k.count in omega arith }
          by Tdown q = record { count = let w = all in let c = k.count in omega arith }
          by Ack q = record { count = let w = all in let b = bears_of Ack x q in let c = k.count in omega arith }
          by Nack q = record { count = let w = all in let c = k.count in omega arith }

    module _ (wired : Wired pl) (s : State) (c : Core pl s) (k : Counted pl d m n s) where
      -- A delivery keeps the count.
      pub deliver_counted : (o : Output) → Drives pl o → Counted pl d m n (deliver pl o s)
      unfolding borne
      deliver_counted o h = same s (deliver pl o s) k (deliver_weighed pl (anywhere (bears pl d)) wired c o h)

      -- So does a sending.
      pub send_counted : (o : Output) → Drives pl o → ((m : ℕ) → s.links.choice o ≡ sender m → Sendable pl s o m)
          → s.links.wire o ≡ Empty → Counted pl d m n (send pl o s)
      unfolding borne
      send_counted o h ready z = same s (send pl o s) k
          (send_weighed pl (anywhere (bears pl d)) wired c o h (λ u m q y x g e f b. refl) ready z)

      -- So does a unit's turn: a booked set-up is the same connection, a declined one is none.
      pub unit_counted : (r i : ℕ) → (r < R pl) × (i < 4) → Counted pl d m n (unit pl r i s)
      unfolding borne
      unit_counted r i h = counted_less s (unit pl r i s) k (by (unit_does pl r i s))
        where
          by : UnitDoes pl r i s → borne pl d (unit pl r i s) ≤ borne pl d s
          by (rests e) = let w = ap (weighed pl (anywhere (bears pl d))) e in omega arith
          by (books x rest e f q t) =
              let w = booked_weighed pl (anywhere (bears pl d)) r i h s x rest e f q t in
              let b = booked_bears x q (core_head c (Q r i) h x rest e).ranges.slot in
              omega arith
          by (declines x rest e f q t) =
              let w = declined_weighed pl (anywhere (bears pl d)) r i h s x rest e f q t in
              let b = bears_of Nack (declined x) refl in
              omega arith
          by (ends x rest e f q t) =
              let w = ended_weighed pl (anywhere (bears pl d)) r i h s x rest e f q t in
              omega arith
          by (frees x rest e f q t) =
              let w = freed_weighed pl (anywhere (bears pl d)) r i h s x rest e f q t in
              let b = bears_of Tdown (freed (S pl) x) q in
              omega arith

      -- So does an active that tears down.
      pub undo_counted : (a : ℕ) → a < A pl → Counted pl d m n (undo pl a s)
      unfolding borne
      undo_counted a h = counted_less s (undo pl a s) k (by (undo_does pl a s))
        where
          by : ActiveDoes pl a s → borne pl d (undo pl a s) ≤ borne pl d s
          by (waits e) = let w = ap (weighed pl (anywhere (bears pl d))) e in omega arith
          by (tears x rest e m g) =
              let w = torn_weighed pl (anywhere (bears pl d)) c a h x rest e m g in
              let b = bears_of Nack (marked x) (unmarked_nack x m) in
              let t = bears_of Tdown (tdown_of (S pl) x) refl in
              omega arith

      -- A Launch counts on both sides.
      pub launched_counted : (a p t : ℕ) → a < A pl → t < S pl
          → Counted pl d m (launches_call d (launch a p t) Done + n) (launched a p t s)
      unfolding borne
      launched_counted a p t h l =
          record {
            count = let w = launched_weighed pl (anywhere (bears pl d)) c a p t h in
                let b = launched_bears a p t l in let m = k.count in omega arith;
          }

      -- A Close keeps the count: a tear-down bears none.
      pub closed_counted : (a p t : ℕ) → a < A pl → Counted pl d m n (closed pl a p t s)
      unfolding borne
      closed_counted a p t h =
          let w = closed_weighed pl (anywhere (bears pl d)) c a p t h in
          let b = bears_of Tdown (closing_of pl a p t) refl in
          counted_less s (closed pl a p t s) k (omega arith)

      -- A Reply keeps the count.
      pub replied_counted : (p : ℕ) (kind : Kind) (x : Packet) (rest : List Packet) → p < P pl
          → (kind ≡ Ack) ⊎ (kind ≡ Nack) → s.lines.queue (passive_in p) ≡ x ∷ rest
          → Counted pl d m n (replied p kind (x ∷ rest) s)
      unfolding borne
      replied_counted p kind x rest h q e =
          let b = core_head c (passive_in p) h x rest e in
          let setup = (passive_setup wired x.active x.passive b.ranges.active b.ranges.passive b.serves
          x.kind x.hub.0 p b.fits).0 in
          let less = replied_bears kind x q setup in
          let w = replied_weighed pl (anywhere (bears pl d)) c p h kind x rest e in
          counted_less s (replied p kind (x ∷ rest) s) k (omega arith)
