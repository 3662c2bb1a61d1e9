-- Each step of the rules leaves all packets together fewer steps, or as many and then as it found them: no wire is
-- changed, no queue is longer or shorter, no flag rises.
use mathlib.Core.Path.{◌≡◌, refl, sym, ap, subst, ◌∙◌}
use mathlib.Core.Logic.{◌⊎◌, inl, inr, ◌≢◌}
use mathlib.Core.Bool.{Bool, false, true≢false}
use mathlib.Core.List.{List, ◌∷◌}
use Prim.Native.Nat.{ℕ, ◌≤◌, ◌<◌}
use native.Mathlib.Omega.{arith}
use lib.ListN.{length}
use borrow.Author.Tests.{eqb-true, eqb-false}
use Rattle.packets.specs.declared.Kind.TheVariants.{Setup, Tdown}
use Rattle.kinds.specs.declared.Slot.{Slot}
use Rattle.packets.specs.declared.Packet.{Packet}
use Rattle.packets.specs.declared.Phase.{Phase}
use Rattle.packets.specs.declared.Wire.TheVariants.{Empty}
use Rattle.plan.specs.Head.{InRange}
use Rattle.plan.specs.Plan.{Plan, R, A, S}
use Rattle.plan_queues.specs.Queue.{Queue, Q}
use Rattle.plan_queues.specs.Role.{is_unit}
use Rattle.plan_queues.specs.Feeds.{Output, Place, in_queue, head_place}
use Rattle.plan_facts.specs.Wired.{Wired}
use Rattle.rules.specs.Store.{put, same_queue}
use Rattle.rules.specs.State.{State, sender, with_phase, with_slot}
use Rattle.rules.specs.Execute.{declined, booked, freed, unit, choose, undo}
use Rattle.rules.specs.Write.{send}
use Rattle.rules.specs.Valid.{Belongs, Drives}
use Rattle.rules.proofs.Numbers.{sender_exists}
use Rattle.theory.specs.Invariant.{Core, Sendable}
use Rattle.theory.specs.Weights.{weighed}
use Rattle.theory.proofs.Ground.Cells.{queue_or, queue_here, queue_away}
use Rattle.theory.proofs.Places.Closure.{unit_setup, stands_below, span_short}
use Rattle.theory.proofs.Places.Lines.{head_leaves}
use Rattle.theory.proofs.Cases.{UnitDoes, rests, books, declines, ends, frees, unit_does, unit_books, unit_declines}
use Rattle.theory.proofs.Cases.{unit_frees, ActiveDoes, waits, tears, undo_does, unmarked_kind_lem, SendDoes, none_sent}
use Rattle.theory.proofs.Cases.{sent, send_does, send_one}
use Rattle.theory.proofs.Weights.Moves.{core_head, phase_weighed, slot_weighed, choose_weighed, sent_weighed}
use Rattle.theory.proofs.Weights.Changes.{booked_weighed, declined_weighed, freed_weighed, ended_weighed, torn_weighed}
use Rattle.theory.proofs.Own.Packets.{fits_as}
use Rattle.theory_drain.specs.Left.{left, all_left}
use Rattle.theory_drain.proofs.Falling.{leaves_falls, booked_left, declined_left, freed_left, ended_left, torn_left}

-- as it was, but for what a unit did to its head
pub record Alike (s t : State) : Type 0 where
  pub wire : t.links.wire ≡ s.links.wire
  pub same : (q : Queue) → is_unit q ≡ false → t.lines.queue q ≡ s.lines.queue q
  pub long : (q : Queue) → length (t.lines.queue q) ≡ length (s.lines.queue q)
  pub down : (q : Queue) → s.flow.flag q ≡ false → t.flow.flag q ≡ false

pub data Lowers (pl : Plan) (s t : State) : Type 0 where
  falls : all_left pl t < all_left pl s → Lowers pl s t
  stays : all_left pl t ≤ all_left pl s → Alike s t → Lowers pl s t

pub alike_self : (s : State) → Alike s s
alike_self s = record { wire = refl; same = λ q f. refl; long = λ q. refl; down = λ q e. e }

pub alike_then : (s t u : State) → Alike s t → Alike t u → Alike s u
alike_then s t u a b =
    record {
      wire = b.wire ∙ a.wire;
      same = λ q f. b.same q f ∙ a.same q f;
      long = λ q. b.long q ∙ a.long q;
      down = λ q e. b.down q (a.down q e);
    }

module _ (pl : Plan) where
  pub lowers_same : (s t : State) → t ≡ s → Lowers pl s t
  lowers_same s t e = subst (Lowers pl s) (sym e) (stays (omega arith) (alike_self s))

  pub lowers_then : (s t u : State) → Lowers pl s t → Lowers pl t u → Lowers pl s u
  lowers_then s t u (falls l) (falls m) = falls (omega arith)
  lowers_then s t u (falls l) (stays m b) = falls (omega arith)
  lowers_then s t u (stays l a) (falls m) = falls (omega arith)
  lowers_then s t u (stays l a) (stays m b) = stays (omega arith) (alike_then s t u a b)

  -- It never grows.
  pub lowers_most : (s t : State) → Lowers pl s t → all_left pl t ≤ all_left pl s
  lowers_most s t (falls l) = omega arith
  lowers_most s t (stays l a) = l

  -- ---- what changes no packet
  pub phase_lowers : (x : Phase) (s : State) → Lowers pl s (with_phase x s)
  unfolding all_left
  phase_lowers x s =
      let e = phase_weighed pl (left pl) x s in
      stays (omega arith) (record { wire = refl; same = λ q f. refl; long = λ q. refl; down = λ q e. e })

  pub slot_lowers : (x : Slot) (s : State) → Lowers pl s (with_slot x s)
  unfolding all_left
  slot_lowers x s =
      let e = slot_weighed pl (left pl) x s in
      stays (omega arith) (record { wire = refl; same = λ q f. refl; long = λ q. refl; down = λ q e. e })

  pub choose_lowers : (o : Output) (s : State) → Lowers pl s (choose pl o s)
  unfolding all_left choose
  choose_lowers o s =
      let e = choose_weighed pl (left pl) o s in
      stays (omega arith) (record { wire = refl; same = λ q f. refl; long = λ q. refl; down = λ q e. e })

-- one queue's packets replaced by as many
long_put : (m : Queue → List Packet) (k : Queue) (l : List Packet) → length l ≡ length (m k) → (q : Queue)
    → length (put same_queue m k l q) ≡ length (m q)
long_put m k l e q = by (queue_or q k)
  where
    by : (q ≡ k) ⊎ (q ≢ k) → length (put same_queue m k l q) ≡ length (m q)
    by (inl f) = rw f (ap length (queue_here m k l) ∙ e)
    by (inr f) = ap length (queue_away m k l q f)

-- a queue that is not a unit's stays as a unit's is changed
same_put : (m : Queue → List Packet) (r i : ℕ) (l : List Packet) (q : Queue) → is_unit q ≡ false
    → put same_queue m (Q r i) l q ≡ m q
same_put m r i l q f = queue_away m (Q r i) l q (λ e. true≢false (sym (ap is_unit e) ∙ f))

module _ {pl : Plan} (wired : Wired pl) (range : InRange pl.head) {s : State} (c : Core pl s) where
  -- ---- EXECUTE
  pub unit_lowers : (r i : ℕ) → (r < R pl) × (i < 4) → Lowers pl s (unit pl r i s)
  unfolding all_left
  unit_lowers r i h = by (unit_does pl r i s)
    where
      here : (x : Packet) (rest : List Packet) → s.lines.queue (Q r i) ≡ x ∷ rest → s.lines.handled (Q r i) ≡ false
          → Belongs pl (in_queue (Q r i)) x
      here x rest e f = subst (λ (d : Bool). Belongs pl (head_place d (Q r i)) x) f (core_head c (Q r i) h x rest e)

      -- the head replaced
      swapped : (t : State) (x y : Packet) (rest : List Packet) → s.lines.queue (Q r i) ≡ x ∷ rest → unit pl r i s ≡ t
          → t.links.wire ≡ s.links.wire → t.lines.queue ≡ put same_queue s.lines.queue (Q r i) (y ∷ rest)
          → t.flow.flag ≡ s.flow.flag → Alike s (unit pl r i s)
      swapped t x y rest e is w q f =
          subst (Alike s) (sym is)
          (record {
            wire = w;
            same = λ k u. ap (λ (m : Queue → List Packet). m k) q ∙ same_put s.lines.queue r i (y ∷ rest) k u;
            long = λ k. ap (λ (m : Queue → List Packet). length (m k)) q
                ∙ long_put s.lines.queue (Q r i) (y ∷ rest) (sym (ap length e)) k;
            down = λ k u. ap (λ (m : Queue → Bool). m k) f ∙ u;
          })

      by : UnitDoes pl r i s → Lowers pl s (unit pl r i s)
      by (rests is) = lowers_same pl s (unit pl r i s) is
      by (books x rest e f k t) =
          let b = here x rest e f in
          let g = unit_setup wired x.active x.passive b.ranges.active b.ranges.passive b.serves r i
          x.hub.0 (fits_as Setup k b) in
          let low = stands_below wired x.active x.passive b.ranges.active b.ranges.passive b.serves
          x.hub.0 _ g in
          let few = span_short wired x.active x.passive b.ranges.active b.ranges.passive b.serves in
          let all = booked_weighed pl (left pl) r i h s x rest e f k t in
          let one = booked_left wired r i x k (omega (arith, range.routers.1)) in
          stays (omega arith)
          (swapped _ x (booked (S pl) x) rest e (unit_books pl r i s x rest e f k t) refl refl refl)
      by (declines x rest e f k t) =
          let all = declined_weighed pl (left pl) r i h s x rest e f k t in
          let one = declined_left wired r i x range.routers.1 h.0 k (here x rest e f) in
          stays (omega arith) (swapped _ x (declined x) rest e (unit_declines pl r i s x rest e f k t) refl refl refl)
      by (ends x rest e f k t) =
          let all = ended_weighed pl (left pl) r i h s x rest e f k t in
          let one = ended_left wired r i x k (eqb-true x.hub.0 1 t) in
          falls (omega arith)
      by (frees x rest e f k t) =
          let g = fits_as Tdown k (here x rest e f) in
          let ne : x.hub.0 ≡ 1 → ⊥ = eqb-false x.hub.0 1 t in
          let all = freed_weighed pl (left pl) r i h s x rest e f k t in
          let one = freed_left wired r i x k (omega (arith, g.2)) in
          stays (omega arith) (swapped _ x (freed (S pl) x) rest e (unit_frees pl r i s x rest e f k t) refl refl refl)

  pub undo_lowers : (a : ℕ) → a < A pl → Lowers pl s (undo pl a s)
  unfolding all_left
  undo_lowers a h = by (undo_does pl a s)
    where
      by : ActiveDoes pl a s → Lowers pl s (undo pl a s)
      by (waits is) = lowers_same pl s (undo pl a s) is
      by (tears x rest e u g) =
          let k = unmarked_kind_lem x.kind x.hub.0 u in
          let all = torn_weighed pl (left pl) c a h x rest e u g in
          let one = torn_left wired a x k.0 k.1 in
          falls (omega arith)

  -- ---- WRITE
  pub send_lowers : (o : Output) → Drives pl o → ((k : ℕ) → s.links.choice o ≡ sender k → Sendable pl s o k)
      → s.links.wire o ≡ Empty → Lowers pl s (send pl o s)
  unfolding all_left
  send_lowers o d ready z = by (send_does pl o s ready)
    where
      by : SendDoes pl o s → Lowers pl s (send pl o s)
      by (none_sent is) = lowers_same pl s (send pl o s) is
      by (sent k q e r g) =
          let h = sender_exists pl o k q d r in
          let belongs = subst (λ (at : Place). Belongs pl at g.packet) (head_leaves s q g.leaves)
          (core_head c q h g.packet g.rest g.line) in
          let less = leaves_falls wired o k q g.onto g.packet d r g.next belongs in
          let all = sent_weighed pl (left pl) s o k q g.onto g.packet g.rest d h z g.line g.leaves
          g.next in
          let is : weighed pl (left pl) (send pl o s) ≡ _ = ap (weighed pl (left pl)) (send_one pl o s k q e r g) in
          falls (omega arith)
