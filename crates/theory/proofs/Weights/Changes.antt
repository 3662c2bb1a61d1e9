-- What a unit, an active and a passive do to the sum of weights: the head's old weight goes, the weight of what it
-- becomes comes, at its place.
use mathlib.Core.Path.{◌≡◌, refl, ap, ap₂, ◌∙◌}
use mathlib.Core.Bool.{true, false}
use mathlib.Core.List.{List, ◌∷◌}
use Prim.Native.Nat.{ℕ, ◌+◌, ◌<◌}
use native.Mathlib.Omega.{arith}
use lib.Dec.{eqb}
use Rattle.packets.specs.declared.Kind.{Kind}
use Rattle.packets.specs.declared.Kind.TheVariants.{Setup, Tdown}
use Rattle.packets.specs.declared.Packet.{Packet}
use Rattle.plan.specs.Plan.{Plan, R, A, P, S}
use Rattle.plan_queues.specs.Queue.{Queue, active_out, active_in, passive_in, passive_out, Q, Exists}
use Rattle.plan_queues.specs.Feeds.{in_queue, handled_at, head_place}
use Rattle.rules.specs.State.{State, with_queue, with_flag, join}
use Rattle.rules.specs.Execute.{declined, booked, freed, handled_as, unit, unmarked, marked, tdown_of, has_room, undo}
use Rattle.rules.specs.Visits.{setup_of, launched, replied_as, replied, removed, closing_of, closed}
use Rattle.rules.specs.Valid.{in_all}
use Rattle.theory.specs.Invariant.{Core}
use Rattle.theory.specs.Weights.{Weight, in_line, weighed}
use Rattle.theory.proofs.Weights.Total.{weighed_line, weighed_join}
use Rattle.theory.proofs.Cases.{may_book_at, unit_books, unit_declines, unit_ends, unit_frees, undo_tears}
use Rattle.theory.proofs.Weights.Moves.{connection_weighed, queue_weighed}

module _ (pl : Plan) (w : Weight) where
  -- The head of a queue taken, where it is in the queue.
  pub taken_weighed : (q : Queue) → Exists pl q → (s : State) → head_place (s.lines.handled q) q ≡ in_queue q
      → (x : Packet) (rest : List Packet) → s.lines.queue q ≡ x ∷ rest
      → weighed pl w (with_queue q rest s) + w (in_queue q) x ≡ weighed pl w s
  taken_weighed q h s p x rest e =
      let all = queue_weighed pl w q h rest s p in
      let old = ap (in_all (w (in_queue q))) e in
      omega arith

  -- The head of a queue replaced, where it is in the queue.
  pub swapped_weighed : (q : Queue) → Exists pl q → (s : State) → head_place (s.lines.handled q) q ≡ in_queue q
      → (x y : Packet) (rest : List Packet) → s.lines.queue q ≡ x ∷ rest
      → weighed pl w (with_queue q (y ∷ rest) s) + w (in_queue q) x ≡ weighed pl w s + w (in_queue q) y
  swapped_weighed q h s p x y rest e =
      let all = queue_weighed pl w q h (y ∷ rest) s p in
      let old = ap (in_all (w (in_queue q))) e in
      omega arith

  -- ---- a unit
  module _ (r i : ℕ) (h : (r < R pl) × (i < 4)) (s : State) where
    -- A unit's head handled: what it became weighs as handled.
    pub handled_weighed : (x y : Packet) (rest : List Packet) → s.lines.queue (Q r i) ≡ x ∷ rest
        → s.lines.handled (Q r i) ≡ false
        → weighed pl w (handled_as r i y rest s) + w (in_queue (Q r i)) x ≡ weighed pl w s + w (handled_at r i) y
    unfolding in_line
    handled_weighed x y rest e f =
        let all = weighed_line pl w (Q r i) h true (y ∷ rest) s in
        let old = ap₂ (in_line w (Q r i)) f e in
        omega arith

    module _ (x : Packet) (rest : List Packet) (e : s.lines.queue (Q r i) ≡ x ∷ rest)
        (f : s.lines.handled (Q r i) ≡ false) where
      -- A set-up is booked.
      pub booked_weighed : x.kind ≡ Setup → may_book_at pl r s x ≡ true
          → weighed pl w (unit pl r i s) + w (in_queue (Q r i)) x ≡ weighed pl w s + w (handled_at r i)
          (booked (S pl) x)
      unfolding weighed
      booked_weighed k t =
          ap (λ (u : State). weighed pl w u + w (in_queue (Q r i)) x) (unit_books pl r i s x rest e f k t)
          ∙ handled_weighed x (booked (S pl) x) rest e f

      -- A set-up is declined.
      pub declined_weighed : x.kind ≡ Setup → may_book_at pl r s x ≡ false
          → weighed pl w (unit pl r i s) + w (in_queue (Q r i)) x ≡ weighed pl w s + w (handled_at r i) (declined x)
      declined_weighed k t =
          ap (λ (u : State). weighed pl w u + w (in_queue (Q r i)) x) (unit_declines pl r i s x rest e f k t)
          ∙ handled_weighed x (declined x) rest e f

      -- A tear-down frees an entry and goes on.
      pub freed_weighed : x.kind ≡ Tdown → eqb x.hub.0 1 ≡ false
          → weighed pl w (unit pl r i s) + w (in_queue (Q r i)) x ≡ weighed pl w s + w (handled_at r i) (freed (S pl) x)
      unfolding weighed
      freed_weighed k t =
          ap (λ (u : State). weighed pl w u + w (in_queue (Q r i)) x) (unit_frees pl r i s x rest e f k t)
          ∙ handled_weighed x (freed (S pl) x) rest e f

      -- A tear-down frees its last entry and ends.
      pub ended_weighed : x.kind ≡ Tdown → eqb x.hub.0 1 ≡ true
          → weighed pl w (unit pl r i s) + w (in_queue (Q r i)) x ≡ weighed pl w s
      unfolding weighed
      ended_weighed k t =
          ap (λ (u : State). weighed pl w u + w (in_queue (Q r i)) x) (unit_ends pl r i s x rest e f k t)
          ∙ taken_weighed (Q r i) h s (rw f) x rest e

  -- ---- an active and a passive
  module _ {s : State} (c : Core pl s) where
    -- An unmarked NACK is marked, and its tear-down joins the out-queue.
    pub torn_weighed : (a : ℕ) → a < A pl → (x : Packet) (rest : List Packet) → s.lines.queue (active_in a) ≡ x ∷ rest
        → unmarked x ≡ true → has_room pl (active_out a) s ≡ true
        → weighed pl w (undo pl a s) + w (in_queue (active_in a)) x ≡ weighed pl w s
        + w (in_queue (active_in a)) (marked x) + w (in_queue (active_out a)) (tdown_of (S pl) x)
    unfolding weighed
    torn_weighed a h x rest e u g =
        let joined = weighed_join pl w (active_out a) h (tdown_of (S pl) x)
        (with_queue (active_in a) (marked x ∷ rest) s)
        (λ m. (c.marks (active_out a) h m).3) in
        let swapped = swapped_weighed (active_in a) h s refl x (marked x) rest e in
        let is : weighed pl w (undo pl a s)
        ≡ weighed pl w (join (active_out a) (tdown_of (S pl) x) (with_queue (active_in a) (marked x ∷ rest) s))
        = ap (weighed pl w) (undo_tears pl a s x rest e u g) in
        omega arith

    -- A launched set-up joins the out-queue.
    pub launched_weighed : (a p t : ℕ) → a < A pl
        → weighed pl w (launched a p t s) ≡ weighed pl w s + w (in_queue (active_out a)) (setup_of a p t)
    unfolding launched weighed
    launched_weighed a p t h = weighed_join pl w (active_out a) h (setup_of a p t) s
        (λ m. (c.marks (active_out a) h m).3)

    -- A closing tear-down joins the out-queue.
    pub closed_weighed : (a p t : ℕ) → a < A pl
        → weighed pl w (closed pl a p t s) ≡ weighed pl w s + w (in_queue (active_out a)) (closing_of pl a p t)
    unfolding closed
    closed_weighed a p t h =
        connection_weighed pl w a p t false (join (active_out a) (closing_of pl a p t) s)
        ∙ weighed_join pl w (active_out a) h (closing_of pl a p t) s (λ m. (c.marks (active_out a) h m).3)

    -- A passive's head goes, and its answer joins the out-queue.
    pub replied_weighed : (p : ℕ) → p < P pl → (k : Kind) (x : Packet) (rest : List Packet)
        → s.lines.queue (passive_in p) ≡ x ∷ rest
        → weighed pl w (replied p k (x ∷ rest) s) + w (in_queue (passive_in p)) x ≡ weighed pl w s
        + w (in_queue (passive_out p)) (replied_as k x)
    unfolding weighed
    replied_weighed p h k x rest e =
        let joined = weighed_join pl w (passive_out p) h (replied_as k x)
        (with_flag (passive_in p) true (with_queue (passive_in p) rest s)) (λ m. (c.marks (passive_out p) h m).3) in
        let taken = taken_weighed (passive_in p) h s refl x rest e in
        omega arith

  -- An active's head is removed.
  pub removed_weighed : (s : State) (a : ℕ) → a < A pl → (x : Packet) (rest : List Packet) → s.lines.queue
      (active_in a) ≡ x ∷ rest → weighed pl w (removed a rest s) + w (in_queue (active_in a)) x ≡ weighed pl w s
  unfolding removed weighed
  removed_weighed s a h x rest e = taken_weighed (active_in a) h s refl x rest e
